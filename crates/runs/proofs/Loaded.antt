-- What a gateway just loaded holds: settings in their ranges, each connection in Close, no CID twice.
use mathlib.Core.Path.{◌≡◌, refl, sym, ap, subst, ◌∙◌}
use Rattle.std.specs.Prelude.{Err, Ok}
use mathlib.Core.Bool.{true, false, ◌&&◌, not, false≢true}
use mathlib.Core.List.{List}
use Prim.Native.Nat.{ℕ, zero, suc, ◌/◌, ◌%◌, ◌≤◌, ◌<◌}
use native.Mathlib.Nat.{not-suc-le-zero}
use native.Mathlib.Omega.{arith}
use native.Mathlib.Decide.{dec_lt}
use lib.Dec.{eqb, ltb, leb}
use lib.ListN.{length}
use borrow.Author.Tests.{ltb-true, ltb-false, le-ltb, leb-true, eqb-false, not-true}
use mathlib.Mathlib.Data.Bool.Basic.{and_elim_left as and_left, and_elim_right as and_right}
use Rattle.endpoint.specs.declared.Settings.{Settings}
use Rattle.endpoint.specs.Endpoint.{Endpoint}
use Rattle.endpoint.specs.declared.Reason.TheVariants as R
use Rattle.endpoint.specs.Answers.{Answer}
use Rattle.endpoint.specs.declared.Refusal.TheVariants.{Dropped}
use Rattle.endpoint.specs.Answers.{is_done}
use Rattle.transitions.specs.ByCall.{fresh_of}
use Rattle.steps.specs.Laws.{Ticks}
use Rattle.steps.proofs.Keeps.{bcase}
use Rattle.settings.specs.Words.{rest_of, is_ticks, has_kinds}
use Rattle.settings.specs.Lists.{word_of, connection_at, settings_at, is_connection_at, is_new_at, are_connections, count_of}
use Rattle.settings.specs.Lists.{is_list}
use Rattle.settings.proofs.Lists.{are_connections_law}
use Rattle.records.specs.declared.Record.{Record}
use Rattle.records.specs.Records.{endpoint_of}
use Rattle.records.proofs.Records.{records}
use Rattle.lent.specs.First.{filled, length_filled, filled_below}
use Rattle.gateway.specs.Tables.{Lent, lent, blank_record, endpoint_at, is_entry, place_of}
use Rattle.gateway.specs.Loading.{loaded_with, fresh_at, Loaded, loaded, loaded_of}
use Rattle.runs.proofs.Tables.{Whole, place_has}

-- ---- lists
pub are_at : (ws : List ℕ) (n i : ℕ) → are_connections ws n ≡ true → i < n
    → (is_connection_at ws i ≡ true) × (is_new_at ws i i ≡ true)
unfolding are_connections
are_at ws zero i h k = absurd (not-suc-le-zero k)
are_at ws (suc n) i h k =
    elim (dec_lt i n) [
      | yes g ↦ are_at ws n i (and_left (are_connections ws n) _ h) g
      | no g ↦ let e : n ≡ i = omega arith in let y = and_right (are_connections ws n) _ h in (
        ap (is_connection_at ws) (sym e) ∙ and_left (is_connection_at ws n) _ y,
        ap (λ (j : ℕ). is_new_at ws j j) (sym e) ∙ and_right (is_connection_at ws n) _ y,
      )
    ]

pub new_at : (ws : List ℕ) (i n j : ℕ) → is_new_at ws i n ≡ true → j < n → connection_at ws i ≡ connection_at ws j → ⊥
unfolding is_new_at
new_at ws i zero j h k = absurd (not-suc-le-zero k)
new_at ws i (suc n) j h k =
    elim (dec_lt j n) [
      | yes g ↦ new_at ws i n j (and_left (is_new_at ws i n) _ h) g
      | no g ↦ let e : n ≡ j = omega arith in λ q. eqb-false (connection_at ws i) (connection_at ws n)
          (not-true _ (and_right (is_new_at ws i n) _ h)) (q ∙ ap (connection_at ws) (sym e))
    ]

-- no CID twice
unique : (ws : List ℕ) (n i j : ℕ) → are_connections ws n ≡ true → i < n → j < n → (i ≡ j → ⊥)
    → connection_at ws i ≡ connection_at ws j → ⊥
unique ws n i j h ki kj ne q =
    elim (dec_lt j i) [
      | yes g ↦ new_at ws i i j (are_at ws n i h ki).1 g q
      | no g ↦ let l : i < j = other i j g ne in new_at ws j j i (are_at ws n j h kj).1 l (sym q)
    ]
  where
    other : (a b : ℕ) → (b < a → ⊥) → (a ≡ b → ⊥) → a < b
    other a b f g = elim (dec_lt a b) [
      | yes h ↦ h
      | no h ↦ absurd (g (omega (arith, f, h)))
    ]

ticks : (v : ℕ) → is_ticks v ≡ true → (1 ≤ v) × (v ≤ 65535)
ticks v h =
    (leb-true 1 v (and_left (leb 1 v) (leb v 65535) h), leb-true v 65535 (and_right (leb 1 v) (leb v 65535) h))

in_ranges : (ws : List ℕ) (i : ℕ) → is_connection_at ws i ≡ true → Ticks (settings_at ws i)
unfolding is_connection_at settings_at
in_ranges ws i h =
    let a = and_right (has_kinds (word_of ws i 0) (word_of ws i 1) (word_of ws i 2) (word_of ws i 3) (word_of ws i 4)
    (word_of ws i 5) (word_of ws i 6)) _ h in
    let b = and_right (ltb (rest_of (word_of ws i 0)) 65536) _ a in
    let c = and_right (ltb (rest_of (word_of ws i 1)) 65536) _ b in
    let d = and_right (not (eqb (rest_of (word_of ws i 0)) (rest_of (word_of ws i 1)))) _ c in
    let e = and_right (ltb (rest_of (word_of ws i 2)) 2048) _ d in
    let f = and_right (leb 1 (rest_of (word_of ws i 2) / 32 % 32) && leb (rest_of (word_of ws i 2) / 32 % 32) 25) _ e in
    let g = and_right (leb 1 (rest_of (word_of ws i 2) % 32) && leb (rest_of (word_of ws i 2) % 32) 25) _ f in
    let k = and_right (is_ticks (rest_of (word_of ws i 3))) _ g in
    let interval = ticks _ (and_left (is_ticks (rest_of (word_of ws i 3))) _ g) in
    record {
      some = interval.0;
      interval = interval.1;
      roundtrip = (ticks _ (and_left (is_ticks (rest_of (word_of ws i 4))) _ k)).1;
      age = (ticks _ (and_right (is_ticks (rest_of (word_of ws i 4))) _ k)).1;
    }

-- ---- the table
table_of : ℕ → List ℕ → List Record → Lent
table_of number ws rs = lent (loaded_with (count_of ws)) (filled (fresh_at number ws) (count_of ws) rs)

same_cid : (ws : List ℕ) (i : ℕ) → (settings_at ws i).connection ≡ connection_at ws i
unfolding settings_at connection_at
same_cid ws i = refl

-- what holds of the CID's entry n, loaded with a session number
pub record Table (number : ℕ) (d : Lent) (cid n : ℕ) : Type 0 where
  pub entry : place_of cid d ≡ n
  pub whole : Whole d
  pub counted : n < d.gateway.count
  pub fresh : endpoint_at d n ≡ fresh_of (endpoint_at d n).settings number
  pub ticks : Ticks (endpoint_at d n).settings
  pub has : (endpoint_at d n).settings.connection ≡ cid
  pub others : (i : ℕ) → i < d.gateway.count → (i ≡ n → ⊥) → (endpoint_at d i).settings.connection ≡ cid → ⊥

-- a gateway of no connections: never loaded, or after 18 or 2
pub none_whole : (rs : List Record) → Whole (lent (loaded_with 0) rs)
none_whole rs = le-ltb (length rs) 0 (omega arith)

-- of a right list, in a slice that is long enough for it
module _ (number : ℕ) (ws : List ℕ) (rs : List Record) (l : is_list ws ≡ true)
    (long : ltb (length rs) (count_of ws) ≡ false) where
  table_whole : Whole (table_of number ws rs)
  unfolding table_of
  table_whole = ap (λ (n : ℕ). ltb n (count_of ws)) (length_filled (fresh_at number ws) (count_of ws) rs) ∙ long

  fresh_at_law : (i : ℕ) → i < count_of ws → endpoint_at (table_of number ws rs) i ≡ fresh_of (settings_at ws i) number
  unfolding table_of endpoint_at
  fresh_at_law i h =
      let k : i < length rs = let z = ltb-false (length rs) (count_of ws) long in omega arith in
      ap endpoint_of (filled_below (fresh_at number ws) (count_of ws) i rs blank_record h k)
      ∙ records.back (fresh_of (settings_at ws i) number) (λ q. refl)

  settings_at_law : (i : ℕ) → i < count_of ws → (endpoint_at (table_of number ws rs) i).settings ≡ settings_at ws i
  settings_at_law i h = ap (λ (e : Endpoint). e.settings) (fresh_at_law i h)

  cid_at : (i : ℕ) → i < count_of ws → (endpoint_at (table_of number ws rs) i).settings.connection ≡ connection_at ws i
  cid_at i h = ap (λ (s : Settings). s.connection) (settings_at_law i h) ∙ same_cid ws i

  table_at : (cid n : ℕ) → place_of cid (table_of number ws rs) ≡ n → n < count_of ws
      → Table number (table_of number ws rs) cid n
  unfolding table_of
  table_at cid n h k =
      let d = table_of number ws rs in
      let has : (endpoint_at d n).settings.connection ≡ cid = rw h at (place_has cid d table_whole (rw h k)) in
      record {
        entry = h;
        whole = table_whole;
        counted = k;
        fresh = fresh_at_law n k ∙ ap (λ (s : Settings). fresh_of s number) (sym (settings_at_law n k));
        ticks = subst Ticks (sym (settings_at_law n k))
            (in_ranges ws n (are_at ws (count_of ws) n (are_connections_law ws l) k).0);
        has = has;
        others = λ i j ne q. unique ws (count_of ws) i n (are_connections_law ws l) j k ne
            (sym (cid_at i j) ∙ q ∙ sym has ∙ cid_at n k);
      }

-- ---- a loading: done, or refused and of no connections
module _ (number : ℕ) (ws : List ℕ) (rs : List Record) where
  loads : (P : Loaded → Type 0)
      → (is_list ws ≡ true → ltb (length rs) (count_of ws) ≡ false → P (loaded (Ok tt) (table_of number ws rs)))
      → ((a : Answer) → is_done a ≡ false → P (loaded a (lent (loaded_with 0) rs)))
      → P (loaded_of number ws rs)
  unfolding table_of
  loads P done refused =
      bcase (is_list ws)
      (λ l. bcase (ltb (length rs) (count_of ws)) (λ s. rw (l, s) (refused (Err (Dropped R.Buffer)) refl))
      (λ s. rw (l, s) (done l s)))
      (λ l. rw l (refused (Err (Dropped R.Settings)) refl))

  pub loaded_table : (cid : ℕ) → (loaded_of number ws rs).answer ≡ Ok tt
      → is_entry (loaded_of number ws rs).lent (place_of cid (loaded_of number ws rs).lent) ≡ true
      → Table number (loaded_of number ws rs).lent cid (place_of cid (loaded_of number ws rs).lent)
  unfolding table_of
  loaded_table cid =
      loads (λ (x : Loaded). x.answer ≡ Ok tt → is_entry x.lent (place_of cid x.lent) ≡ true
      → Table number x.lent cid (place_of cid x.lent))
      (λ l s d h. table_at number ws rs l s cid (place_of cid (table_of number ws rs)) refl (ltb-true _ (count_of ws) h))
      (λ a n d. absurd (false≢true (sym n ∙ ap is_done d)))

  pub loaded_whole : Whole (loaded_of number ws rs).lent
  loaded_whole = loads (λ (x : Loaded). Whole x.lent) (table_whole number ws rs) (λ a n. none_whole rs)

  -- no connection has written a request
  pub loaded_none : (i : ℕ) → i < (loaded_of number ws rs).lent.gateway.count
      → (endpoint_at (loaded_of number ws rs).lent i).setup.requests ≡ 0
  unfolding table_of
  loaded_none i =
      loads (λ (x : Loaded). i < x.lent.gateway.count → (endpoint_at x.lent i).setup.requests ≡ 0)
      (λ l s h. ap (λ (e : Endpoint). e.setup.requests) (fresh_at_law number ws rs l s i h))
      (λ a n h. absurd (not-suc-le-zero h))
