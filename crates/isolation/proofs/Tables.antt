-- The table of a loaded list: a call keeps its size and its CIDs, and each entry is the place of its CID.
use mathlib.Core.Path.{◌≡◌, sym, ap, subst, ◌∙◌}
use Rattle.std.specs.Prelude.{Err, None, Ok, Some}
use Rattle.frame.specs.Reading.{Reading}
use Rattle.frame.specs.Reading.{frame_with}
use mathlib.Core.Bool.{Bool, true, false, false≢true}
use mathlib.Core.List.{List, [], ◌∷◌}
use Prim.Native.Nat.{ℕ, zero, suc, ◌≤◌, ◌<◌}
use native.Mathlib.Nat.{not-suc-le-zero, le_of_suc-le-suc}
use native.Mathlib.Omega.{arith}
use native.Mathlib.Decide.{dec_lt}
use mathlib.Mathlib.Data.Bool.Basic.{and_elim_left, and_elim_right}
use lib.Dec.{ltb}
use lib.ListN.{length, get_or}
use borrow.Author.Tests.{ltb-false, eqb-true, eqb-false, lt-ltb, le-ltb, eq-eqb, ne_eqb, not-true}
use Rattle.frame.specs.Reading.{reading_of}
use Rattle.endpoint.specs.Answers.{is_done}
use Rattle.steps.proofs.Keeps.{bcase}
use Rattle.settings.specs.Lists.{connection_at, settings_at, is_connection_at, is_new_at, are_connections, count_of}
use Rattle.settings.specs.Lists.{is_list}
use Rattle.settings.proofs.Lists.{are_connections_law}
use Rattle.records.specs.declared.Record.{Record}
use Rattle.lent.specs.First.{seek_in, filled, length_filled, filled_below}
use Rattle.gateway.specs.declared.Gateway.{Gateway}
use Rattle.gateway.specs.Tables.{Lent, lent, blank_record, record_at, is_entry, is_shorter, has_connection, place_of}
use Rattle.gateway.specs.Tables.{after_clock}
use Rattle.gateway.specs.Loading.{loaded_with, fresh_at, loaded_of}
use Rattle.gateway.specs.Calls.{is_named, entry_number}
use Rattle.runs.proofs.Loaded.{are_at, new_at}
use Rattle.runs.specs.Bus.{is_of}
use Rattle.runs.specs.Steps.{Call, act, send, deliver, show, call_in}
use Rattle.isolation.specs.Isolation.{entry_in, entry_of, is_for}
use Rattle.isolation.proofs.Changes.{clock_count, call_keeps, one_record}

-- ---- a search among the first m
module _ {A : Type 0} (hit : A → Bool) where
  -- it ends at the first that hits
  seek_at : (i m : ℕ) (ys : List A) (d : A) → i < m → i < length ys
      → ((j : ℕ) → j < i → hit (get_or ys j d) ≡ false) → hit (get_or ys i d) ≡ true → seek_in hit m ys ≡ i
  seek_at i zero ys d l w before h = absurd (not-suc-le-zero l)
  seek_at i (suc m) [] d l w before h = absurd (not-suc-le-zero w)
  seek_at zero (suc m) (y ∷ ys) d l w before h = rw h
  seek_at (suc i) (suc m) (y ∷ ys) d l w before h =
      rw (before 0 (omega arith)) (ap suc (seek_at i m ys d (le_of_suc-le-suc l) (le_of_suc-le-suc w)
      (λ j k. before (suc j) (omega arith)) h))

  -- where it ends within the table, that one hits
  seek_found : (i m : ℕ) (ys : List A) (d : A) → i < m → i < length ys → seek_in hit m ys ≡ i
      → hit (get_or ys i d) ≡ true
  seek_found i zero ys d l w e = absurd (not-suc-le-zero l)
  seek_found i (suc m) [] d l w e = absurd (not-suc-le-zero w)
  seek_found zero (suc m) (y ∷ ys) d l w e =
      bcase (hit y) (λ q. q) (λ q. let z : suc (seek_in hit m ys) ≡ 0 = rw q at e in absurd (omega (arith, z)))
  seek_found (suc i) (suc m) (y ∷ ys) d l w e =
      bcase (hit y) (λ q. let z : 0 ≡ suc i = rw q at e in absurd (omega (arith, z)))
      (λ q.
      let z : suc (seek_in hit m ys) ≡ suc i = rw q at e in
      seek_found i m ys d (le_of_suc-le-suc l) (le_of_suc-le-suc w) (omega (arith, z)))

-- ---- a table of the list's connections
pub absent_at : {i : ℕ} → None ≡ Some i → ⊥
absent_at h = false≢true (ap is_named h)

pub record Table (ws : List ℕ) (d : Lent) : Type 0 where
  pub right : are_connections ws (count_of ws) ≡ true
  pub counts : d.gateway.count ≡ count_of ws
  pub whole : count_of ws ≤ length d.records
  pub cids : (i : ℕ) → i < count_of ws → (record_at d.records i).stored.connection ≡ connection_at ws i

module _ (ws : List ℕ) (d : Lent) (T : Table ws d) (e : ℕ) (there : e < count_of ws) where
  pub counted : e < d.gateway.count
  counted = let z = T.counts in omega arith

  pub within : e < length d.records
  within = let z = T.whole in omega arith

  pub is_entry_law : is_entry d e ≡ true
  is_entry_law = lt-ltb e d.gateway.count counted

  pub not_shorter : is_shorter d ≡ false
  not_shorter = le-ltb (length d.records) d.gateway.count (let z = T.counts in let y = T.whole in omega arith)

  pub place_own : place_of (connection_at ws e) d ≡ e
  unfolding place_of
  place_own =
      let cid = connection_at ws e in
      seek_at (has_connection cid) e d.gateway.count d.records blank_record counted within
      (λ j k. ne_eqb (record_at d.records j).stored.connection cid
      (λ q. new_at ws e e j (are_at ws (count_of ws) e T.right there).1 k (sym q ∙ T.cids j (omega arith))))
      (eq-eqb (record_at d.records e).stored.connection cid (T.cids e there))

  pub place_other : (cid : ℕ) → (cid ≡ connection_at ws e → ⊥) → place_of cid d ≡ e → ⊥
  unfolding place_of
  place_other cid ne h =
      let q = seek_found (has_connection cid) e d.gateway.count d.records blank_record counted within h in
      ne (sym (eqb-true (record_at d.records e).stored.connection cid q) ∙ T.cids e there)

  -- ---- a call that is not for the connection has another entry, and leaves its record to the clock step
  other_frame : (r : Reading) → is_of (connection_at ws e) r ≡ false → entry_in d r ≡ Some e → ⊥
  other_frame (Ok read) h q =
      place_other read.fields.connection (eqb-false read.fields.connection (connection_at ws e) h) (ap entry_number q)
  other_frame (Err fault) h q = absent_at q

  other_entry : (c : Call) → is_for e (connection_at ws e) c ≡ false → entry_of d c ≡ Some e → ⊥
  other_entry (act a n) h q = eqb-false n e h (ap entry_number q)
  other_entry (send n value) h q = eqb-false n e h (ap entry_number q)
  other_entry (deliver s) h q = other_frame (reading_of s) h q
  other_entry (show n) h q = absent_at q

  pub apart : (t room : ℕ) (c : Call) → is_for e (connection_at ws e) c ≡ false
      → record_at (call_in d t room c).lent.records e ≡ record_at (after_clock t d).records e
  apart t room c h = (one_record d t room c).others e (other_entry c h)

-- ---- every call keeps it
pub table_kept : (ws : List ℕ) (d : Lent) → Table ws d → (t room : ℕ) (c : Call) → Table ws (call_in d t room c).lent
table_kept ws d T t room c =
    let o = one_record d t room c in
    record {
      right = T.right;
      counts = ap (λ (g : Gateway). g.count) o.gateway ∙ clock_count d t ∙ T.counts;
      whole = subst (λ (m : ℕ). count_of ws ≤ m) (sym o.whole) T.whole;
      cids = λ i l. call_keeps d t room c i (counted ws d T i l) (within ws d T i l) ∙ T.cids i l;
    }

-- ---- a list loaded with a session number and answer 0
abbrev filled_with : ℕ → List ℕ → List Record → Lent
filled_with number ws rs = lent (loaded_with (count_of ws)) (filled (fresh_at number ws) (count_of ws) rs)

pub record LoadedWith (number : ℕ) (ws : List ℕ) (rs : List Record) : Type 0 where
  pub is : (loaded_of number ws rs).lent ≡ filled_with number ws rs
  pub right : is_list ws ≡ true
  pub whole : count_of ws ≤ length rs

pub loaded_with_law : (number : ℕ) (ws : List ℕ) (rs : List Record) → (loaded_of number ws rs).answer ≡ Ok tt
    → LoadedWith number ws rs
loaded_with_law number ws rs h =
    bcase (is_list ws)
    (λ l. bcase (ltb (length rs) (count_of ws)) (λ q. absurd (false≢true (ap is_done (rw (l, q) at h))))
    (λ q. record { is = rw (l, q); right = l; whole = ltb-false (length rs) (count_of ws) q }))
    (λ l. absurd (false≢true (ap is_done (rw l at h))))

-- its connections, in Close, each at its entry
pub loaded_at : (number : ℕ) (ws : List ℕ) (rs : List Record) → (loaded_of number ws rs).answer ≡ Ok tt
    → (e : ℕ) → e < count_of ws → record_at (loaded_of number ws rs).lent.records e ≡ fresh_at number ws e
loaded_at number ws rs h e l =
    let w = loaded_with_law number ws rs h in
    ap (λ (d : Lent). record_at d.records e) w.is
    ∙ filled_below (fresh_at number ws) (count_of ws) e rs blank_record l (let z = w.whole in omega arith)

pub loaded_table : (number : ℕ) (ws : List ℕ) (rs : List Record) → (loaded_of number ws rs).answer ≡ Ok tt
    → Table ws (loaded_of number ws rs).lent
unfolding connection_at settings_at
loaded_table number ws rs h =
    let w = loaded_with_law number ws rs h in
    record {
      right = are_connections_law ws w.right;
      counts = ap (λ (d : Lent). d.gateway.count) w.is;
      whole = let z = ap (λ (d : Lent). length d.records) w.is in
          subst (λ (m : ℕ). count_of ws ≤ m) (sym (z ∙ length_filled (fresh_at number ws) (count_of ws) rs)) w.whole;
      cids = λ i l. ap (λ (r : Record). r.stored.connection) (loaded_at number ws rs h i l);
    }
