-- Tables of connections that correspond, one by one: the clock step keeps it, and so does a record put at its place; an
-- entry, a CID's place and an expired timer are the same in both.
use mathlib.Core.Path.{◌≡◌, refl, sym, ap, ap₂, subst, ◌∙◌}
use mathlib.Core.Bool.{Bool, true, false, ◌&&◌, ◌||◌, not, cond, false≢true}
use mathlib.Core.List.{List, [], ◌∷◌}
use Prim.Native.Nat.{ℕ, zero, suc}
use native.Mathlib.Omega.{arith}
use lib.Dec.{ltb}
use lib.ListN.{length, get_or, set, length-set}
use Rattle.errors.specs.declared.ErrorRecord.{ErrorRecord}
use Rattle.endpoint.specs.declared.Queue.{Queue}
use Rattle.endpoint.specs.declared.Queue.TheVariants as Q
use Rattle.endpoint.specs.Endpoint.{Endpoint}
use Rattle.endpoint.specs.Time.{is_expired}
use Rattle.steps.specs.Frames.{has_record}
use Rattle.records.specs.declared.Record.{Record}
use Rattle.records.specs.Records.{queue_from, queue_number, endpoint_of, record_of, ended_record}
use Rattle.records.proofs.Records.{flag_back}
use Rattle.lent.specs.First.{on_first, seek_in, filled, length_first}
use Rattle.gateway.specs.declared.Gateway.{Gateway}
use Rattle.gateway.specs.Tables.{Lent, blank_record, record_at, endpoint_at, is_shorter, has_connection, place_of, is_reading}
use Rattle.gateway.specs.Tables.{at_clock, ticked, clock_step, is_timely, after_clock, placed}
use Rattle.noninterference.specs.NonInterference.{is_writing, is_looked_at, ExchangedRecord, ExchangedLent}
use Rattle.noninterference.proofs.Connection.{looked_by, Likes}

-- ---- two lists of one length, related place by place
no_length : {A : Type 0} {n : ℕ} → 0 ≡ suc n → A
no_length {n = n} e = absurd (omega (arith, e))

one_less : {m n : ℕ} → suc m ≡ suc n → m ≡ n
one_less {m} {n} e = omega (arith, e)

module _ {A : Type 0} (R : A → A → Type 0) (d : A) where
  abbrev pub All : List A → List A → Type 0
  All ys ys' = (i : ℕ) → R (get_or ys i d) (get_or ys' i d)

  pub first_both : (f : A → A) → ((y y' : A) → R y y' → R (f y) (f y')) → (n : ℕ) (ys ys' : List A)
      → length ys' ≡ length ys → All ys ys' → All (on_first f n ys) (on_first f n ys')
  first_both f s zero ys ys' l h i = h i
  first_both f s (suc n) [] [] l h i = h i
  first_both f s (suc n) [] (y' ∷ ys') l h i = no_length (sym l)
  first_both f s (suc n) (y ∷ ys) [] l h i = no_length l
  first_both f s (suc n) (y ∷ ys) (y' ∷ ys') l h zero = s y y' (h 0)
  first_both f s (suc n) (y ∷ ys) (y' ∷ ys') l h (suc i) =
      first_both f s n ys ys' (one_less l) (λ j. h (suc j)) i

  pub set_both : (r r' : A) → R r r' → (n : ℕ) (ys ys' : List A) → length ys' ≡ length ys → All ys ys'
      → All (set ys n r) (set ys' n r')
  set_both r r' p n [] [] l h i = h i
  set_both r r' p n [] (y' ∷ ys') l h i = no_length (sym l)
  set_both r r' p n (y ∷ ys) [] l h i = no_length l
  set_both r r' p zero (y ∷ ys) (y' ∷ ys') l h zero = p
  set_both r r' p zero (y ∷ ys) (y' ∷ ys') l h (suc i) = h (suc i)
  set_both r r' p (suc n) (y ∷ ys) (y' ∷ ys') l h zero = h 0
  set_both r r' p (suc n) (y ∷ ys) (y' ∷ ys') l h (suc i) =
      set_both r r' p n ys ys' (one_less l) (λ j. h (suc j)) i

  pub filled_both : (f : ℕ → A) → ((i : ℕ) → R (f i) (f i)) → (n : ℕ) (ys ys' : List A) → length ys' ≡ length ys
      → All ys ys' → All (filled f n ys) (filled f n ys')
  filled_both f s zero ys ys' l h i = h i
  filled_both f s (suc n) [] [] l h i = h i
  filled_both f s (suc n) [] (y' ∷ ys') l h i = no_length (sym l)
  filled_both f s (suc n) (y ∷ ys) [] l h i = no_length l
  filled_both f s (suc n) (y ∷ ys) (y' ∷ ys') l h zero = s 0
  filled_both f s (suc n) (y ∷ ys) (y' ∷ ys') l h (suc i) =
      filled_both (λ j. f (suc j)) (λ j. s (suc j)) n ys ys' (one_less l) (λ j. h (suc j)) i

  pub seek_both : (hit : A → Bool) → ((y y' : A) → R y y' → hit y' ≡ hit y) → (n : ℕ) (ys ys' : List A)
      → length ys' ≡ length ys → All ys ys' → seek_in hit n ys' ≡ seek_in hit n ys
  seek_both hit s zero ys ys' l h = refl
  seek_both hit s (suc n) [] [] l h = refl
  seek_both hit s (suc n) [] (y' ∷ ys') l h = no_length (sym l)
  seek_both hit s (suc n) (y ∷ ys) [] l h = no_length l
  seek_both hit s (suc n) (y ∷ ys) (y' ∷ ys') l h =
      ap₂ (λ (b : Bool) (k : ℕ). cond b 0 (suc k)) (s y y' (h 0))
      (seek_both hit s n ys ys' (one_less l) (λ j. h (suc j)))

-- ---- a record of an endpoint is looked at where the endpoint is
queue_back : (q : Queue) → queue_from (queue_number q) ≡ q
queue_back Q.Empty = refl
queue_back Q.InvokeFunc = refl
queue_back Q.ReadErrorInfo = refl
queue_back Q.WriteErrorInfo = refl
queue_back Q.Closed = refl

looked_back : (e : Endpoint) → is_looked_at e ≡ is_looked_at (endpoint_of (record_of e))
looked_back e =
    λ i. has_record e
    || (not (sym (flag_back e.settings.slave) i) && is_writing (sym (queue_back e.setup.queue) i))

module _ (P : ErrorRecord → ErrorRecord) where
  -- ---- records and endpoints
  pub likes_of : (r r' : Record) → ExchangedRecord P r r' → Likes P (endpoint_of r) (endpoint_of r')
  likes_of r r' X = record { same = ap endpoint_of X.same; errorinfo = X.errorinfo }

  pub record_of_law : (e e' : Endpoint) → Likes P e e' → ExchangedRecord P (record_of e) (record_of e')
  record_of_law e e' L = record { same = ap record_of L.same; errorinfo = λ q. L.errorinfo (looked_back e ∙ q) }

  -- ---- the clock step of one
  ended_both : (r r' : Record) → ExchangedRecord P r r' → ExchangedRecord P (ended_record r) (ended_record r')
  ended_both r r' X =
      let e = endpoint_of r in
      record {
        same = ap ended_record X.same;
        errorinfo = λ q. X.errorinfo (looked_by (has_record e) (not e.settings.slave) false
            (is_writing e.setup.queue) (λ z. absurd (false≢true z)) q);
      }

  ticked_both : (t : ℕ) (r r' : Record) → ExchangedRecord P r r' → ExchangedRecord P (ticked t r) (ticked t r')
  ticked_both t r r' X =
      subst (λ (b : Bool). ExchangedRecord P (ticked t r) (cond b (ended_record r') r'))
      (sym (ap (λ (z : Record). is_expired (endpoint_of z) t) X.same)) (go (is_expired (endpoint_of r) t))
    where
      go : (b : Bool) → ExchangedRecord P (cond b (ended_record r) r) (cond b (ended_record r') r')
      go true = ended_both r r' X
      go false = X

  -- ---- what is lent
  pub placed_both : (d d' : Lent) → ExchangedLent P d d' → (n : ℕ) (r r' : Record) → ExchangedRecord P r r'
      → ExchangedLent P (placed n r d) (placed n r' d')
  placed_both d d' D n r r' X = record {
    gateway = D.gateway;
    whole = length-set d'.records n r' ∙ D.whole ∙ sym (length-set d.records n r);
    records = set_both (ExchangedRecord P) blank_record r r' X n d.records d'.records D.whole D.records;
  }

  module _ (d d' : Lent) (D : ExchangedLent P d d') where
    pub endpoint_both : (n : ℕ) → Likes P (endpoint_at d n) (endpoint_at d' n)
    unfolding endpoint_at
    endpoint_both n = likes_of (record_at d.records n) (record_at d'.records n) (D.records n)

    pub expired_same : (t n : ℕ) → is_expired (endpoint_at d' n) t ≡ is_expired (endpoint_at d n) t
    expired_same t n = ap (λ (e : Endpoint). is_expired e t) (endpoint_both n).same

    pub shorter_same : is_shorter d' ≡ is_shorter d
    shorter_same = ap₂ (λ (n : ℕ) (g : Gateway). ltb n g.count) D.whole D.gateway

    pub reading_same : (t : ℕ) → is_reading d'.gateway t ≡ is_reading d.gateway t
    reading_same t = ap (λ (g : Gateway). is_reading g t) D.gateway

    pub place_same : (cid : ℕ) → place_of cid d' ≡ place_of cid d
    unfolding place_of
    place_same cid =
        ap (λ (g : Gateway). seek_in (has_connection cid) g.count d'.records) D.gateway
        ∙ seek_both (ExchangedRecord P) blank_record (has_connection cid)
        (λ r r' X. ap (has_connection cid) X.same) d.gateway.count d.records d'.records D.whole
        D.records

    -- ---- the clock step
    pub step_both : (t : ℕ) → ExchangedLent P (clock_step t d) (clock_step t d')
    unfolding clock_step
    step_both t =
        let n = d.gateway.count in
        record {
          gateway = ap (at_clock t) D.gateway;
          whole = length_first (ticked t) d'.gateway.count d'.records ∙ D.whole
              ∙ sym (length_first (ticked t) n d.records);
          records = subst (λ (g : Gateway). All (ExchangedRecord P) blank_record (on_first (ticked t) n d.records)
              (on_first (ticked t) g.count d'.records)) (sym D.gateway)
              (first_both (ExchangedRecord P) blank_record (ticked t) (ticked_both t) n d.records d'.records
              D.whole D.records);
        }

    timely_same : (t : ℕ) → is_timely d' t ≡ is_timely d t
    timely_same t = ap₂ (λ (r s : Bool). r && not s) (reading_same t) shorter_same

    pub clock_both : (t : ℕ) → ExchangedLent P (after_clock t d) (after_clock t d')
    clock_both t =
        subst (λ (b : Bool). ExchangedLent P (after_clock t d) (cond b (clock_step t d') d')) (sym (timely_same t))
        (go (is_timely d t))
      where
        go : (b : Bool) → ExchangedLent P (cond b (clock_step t d) d) (cond b (clock_step t d') d')
        go true = step_both t
        go false = D
