-- Lists of records as the code steps and stores them, and as `settled` has them.
use Rattle.std.proofs.Common.{◌≡◌, refl, sym, ap, ◌∙◌, ◌<◌, ◌≤◌, ℕ, zero, suc, min, ltb, ◌+◌, Bool, true, false, ◌&&◌, not, cond, List, [], ◌∷◌, ◌++◌, map, length, get_or, set, take, drop, arith, inl, inr}
use Rattle.std.proofs.lemmas.List.{get_or_default, get_or_past, length-take}
use Rattle.std.proofs.lemmas.Bool.{cases_lt}
use Rattle.std.proofs.lemmas.Bool.Decides.{nat_tests}
use Rattle.std.specs.Prelude.{Option, Some, None}
use Rattle.std.specs.Option.{unwrap_or}
use Rattle.std.specs.List.{position_or_len}
use Rattle.endpoint.specs.Endpoint.{no_bytes}
use Rattle.records.specs.declared.Stored.{Stored}
use Rattle.records.specs.declared.Record.{Record}
use Rattle.records.specs.Records.{ended_stored}
use Rattle.lent.specs.First.{on_first, get_d_first, first_next, first_all, set_past, seek_in}
use Rattle.gateway.specs.declared.Call.{Call}
use Rattle.gateway.specs.declared.Picked.{Picked}
use Rattle.gateway.specs.Tables.{blank_record, record_at, has_connection}
use Rattle.gateway.specs.Parts.{with_stored, with_value, stored_at, value_at, is_over, stepped_record, picked, spot_of, met_of}

-- ---- the first n elements, and the rest
first_parts : {R : Type 0} (f : R → R) (n : ℕ) (ys : List R) → map f (take n ys) ++ drop n ys ≡ on_first f n ys
first_parts f zero ys = refl
first_parts f (suc n) [] = refl
first_parts f (suc n) (y ∷ ys) = ap (λ (zs : List _). f y ∷ zs) (first_parts f n ys)

pub first_whole : {R : Type 0} (f : R → R) (n : ℕ) (ys : List R) → length ys ≤ n → on_first f n ys ≡ map f ys
first_whole f n ys l = sym (first_all f (length ys) n ys (omega arith) l) ∙ whole ys
  where
    whole : (ys : List _) → on_first f (length ys) ys ≡ map f ys
    whole [] = refl
    whole (y ∷ ys) = ap (λ (zs : List _). f y ∷ zs) (whole ys)

pub first_cut : {R : Type 0} (f : R → R) (n k : ℕ) (ys zs : List R) → k ≡ min n (length ys) → zs ≡ map f (take k ys)
    → zs ++ drop k ys ≡ on_first f n ys
first_cut f n k ys zs e q =
    ap (λ (us : List _). us ++ drop k ys) q ∙ first_parts f k ys
    ∙ elim (cases_lt n (length ys)) [
      | inl l ↦ let h : k ≡ n = omega (arith, e, l) in ap (λ (i : ℕ). on_first f i ys) h
      | inr l ↦ first_all f k n ys (omega (arith, e, l)) (omega (arith, l))
    ]

-- ---- the clock step on one more record
module _ (t i : ℕ) (ys xs zs : List Record) (d : Record) (e : xs ≡ on_first (stepped_record t) i ys) (l : i < length ys)
  where
    abbrev r : Record
    r = get_or xs i d

    steps_next : (x : Record) → zs ≡ set xs i x → x ≡ stepped_record t r → zs ≡ on_first (stepped_record t) (suc i) ys
    steps_next x q h =
        let f = stepped_record t in
        q ∙ ap (set xs i) (h ∙ ap f (ap (λ (us : List Record). get_or us i d) e ∙ get_d_first f i ys d))
        ∙ ap (λ (us : List Record). set us i (f (get_or ys i d))) e ∙ first_next f i ys d l

    pub steps_over : (s : Stored) → zs ≡ set xs i (with_value (with_stored r s) no_bytes) → is_over r.stored t ≡ true
        → s ≡ ended_stored r.stored → zs ≡ on_first (stepped_record t) (suc i) ys
    steps_over s q h k = steps_next (with_value (with_stored r s) no_bytes) q (rw (k, h))

    pub steps_still : zs ≡ set xs i r → is_over r.stored t ≡ false → zs ≡ on_first (stepped_record t) (suc i) ys
    steps_still q h = steps_next r q (rw h)

-- ---- one stored part, and one value, where its place is in the slice
pub stores : (n : ℕ) (s : Stored) (xs zs : List Record) (d : Record) → n < length xs
    → zs ≡ set xs n (with_stored (get_or xs n d) s) → zs ≡ stored_at n s xs
stores n s xs zs d l q =
    q ∙ ap (λ (r : Record). set xs n (with_stored r s)) (get_or_default xs n d blank_record l)

pub stores_none : (n : ℕ) (s : Stored) (xs zs : List Record) → length xs ≤ n → zs ≡ xs → zs ≡ stored_at n s xs
stores_none n s xs zs l q = q ∙ set_past xs n (with_stored (record_at xs n) s) l

pub wipes : (n : ℕ) (xs zs : List Record) (d : Record) → n < length xs
    → zs ≡ set xs n (with_value (get_or xs n d) no_bytes) → zs ≡ value_at n no_bytes xs
wipes n xs zs d l q =
    q ∙ ap (λ (r : Record). set xs n (with_value r no_bytes)) (get_or_default xs n d blank_record l)

pub wipes_none : (n : ℕ) (xs zs : List Record) → length xs ≤ n → zs ≡ xs → zs ≡ value_at n no_bytes xs
wipes_none n xs zs l q = q ∙ set_past xs n (with_value (record_at xs n) no_bytes) l

-- ---- the record of a CID
at_place : {R : Type 0} (hit : R → Bool) (n : ℕ) (ys : List R) → position_or_len hit (take n ys) ≡ seek_in hit n ys
at_place hit zero ys = refl
at_place hit (suc n) [] = refl
at_place hit (suc n) (y ∷ ys) = by (hit y) (at_place hit n ys)
  where
    by : (b : Bool) {k m : ℕ} → k ≡ m → cond (not b) (1 + k) 0 ≡ cond b 0 (suc m)
    by true e = refl
    by false e = omega (arith, e)

within_both : (i n k m : ℕ) → m ≡ min n k → ltb i m ≡ (ltb i n && ltb i k)
within_both i n k m e = grind (arith, nat_tests)

module _ (ys : List Record) (c : Call) (cid : ℕ) where
  abbrev s : ℕ
  s = spot_of ys c cid

  abbrev place : ℕ
  place = position_or_len (has_connection cid) (take c.gateway.count ys)

  abbrev at : ℕ → Picked
  at i = picked (record_at ys i).stored c (length ys) i

  by_test : (b : Bool) (i : ℕ) → i ≡ unwrap_or (cond b (Some s) None) (length ys)
      → at i ≡ cond b (at s) (picked blank_record.stored c (length ys) (length ys))
  by_test true i e = ap at e
  by_test false i e =
      ap at e ∙ ap (λ (r : Record). picked r.stored c (length ys) (length ys)) (get_or_past ys (length ys) blank_record (omega arith))

  pub met : (i : ℕ) (p : Option ℕ) → p ≡ cond (ltb place (length (take c.gateway.count ys))) (Some place) None
      → i ≡ unwrap_or p (length ys) → at i ≡ met_of ys c cid
  met i p q e =
      let f = at_place (has_connection cid) c.gateway.count ys in
      let b = ltb s c.gateway.count && ltb s (length ys) in
      let w : ltb place (length (take c.gateway.count ys)) ≡ b =
      ap (λ (k : ℕ). ltb k (length (take c.gateway.count ys))) f
      ∙ within_both s c.gateway.count (length ys) (length (take c.gateway.count ys)) (length-take c.gateway.count ys) in
      by_test b i (e ∙ ap (λ (x : Option ℕ). unwrap_or x (length ys)) (q ∙ (λ j. cond (w j) (Some (f j)) None)))
