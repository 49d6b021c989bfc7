-- What a call's own step moves is what the call comes to: its answer, and the records that it leaves.
use mathlib.Core.Path.{◌≡◌, refl, sym, ap, subst, ◌∙◌}
use Rattle.std.specs.Prelude.{Err, Ok}
use Rattle.std.specs.Prelude.{Option, None, Some}
use mathlib.Core.Bool.{Bool, true, false, ◌&&◌, ◌||◌, not, cond, beq, true≢false, false≢true}
use mathlib.Core.List.{List, []}
use mathlib.Mathlib.Data.Bool.Basic.{and_elim_left, and_elim_right}
use Prim.Native.Nat.{ℕ, ◌<◌, ◌≤◌}
use native.Mathlib.Omega.{arith}
use Rattle.std.proofs.Common.{inl, inr}
use Rattle.std.proofs.lemmas.Bool.{cases_lt}
use lib.Dec.{ltb}
use lib.ListN.{length, set, length-set}
use Rattle.std.proofs.lemmas.List.{get_or-set_same, set-set}
use borrow.Author.Tests.{ltb-true, ltb-false}
use Rattle.frame.specs.declared.Command.TheVariants as K
use Rattle.frame.specs.declared.Fields.{Fields}
use Rattle.frame.specs.Control.{is}
use Rattle.endpoint.specs.Endpoint.{Endpoint, no_bytes, core_of}
use Rattle.endpoint.specs.declared.Reason.{Reason}
use Rattle.endpoint.specs.declared.Reason.TheVariants as R
use Rattle.endpoint.specs.Answers.{Answer}
use Rattle.endpoint.specs.declared.Refusal.TheVariants.{Dropped, Ended}
use Rattle.endpoint.specs.Answers.{first_of, is_done, is_ended, left_by}
use Rattle.endpoint.specs.Time.{is_expired, ended_of}
use Rattle.transitions.specs.ByFrame.{refreshed_of}
use Rattle.steps.specs.Frames.{bytes_of}
use Rattle.steps.specs.Frames.{padded_of, padded_record}
use Rattle.steps.specs.Calls.{Outcome, is_fail_safe, shown_of, shown_age}
use Rattle.steps.specs.Deliveries.{refresh_faults, deliver_of}
use Rattle.steps.specs.Says.{stepped_of}
use Rattle.steps.specs.Steps as S
use Rattle.steps.specs.Values.{with_bytes, is_show, accepts, body_in, bytes_after, with_handed, looks, hands_words}
use Rattle.steps.specs.Values.{hands_record, handed_in, words_after, record_after, HandedLeft}
use Rattle.steps.proofs.Values.{values}
use Rattle.steps.proofs.HandedKept.{handed_laws}
use Rattle.steps.proofs.Dispatch.{cond_true, cond_false, deliver_echo, deliver_refresh}
use Rattle.steps.proofs.Keeps.{bcase}
use Rattle.records.specs.declared.Stored.{Stored}
use Rattle.records.specs.declared.Record.{Record}
use Rattle.records.specs.Records.{is_set, bare_of, held_in, endpoint_of, stored_of, record_with, record_of}
use Rattle.records.proofs.Records.{records}
use Rattle.lent.specs.First.{on_first, length_first, get_d_below, set_past}
use Rattle.gateway.specs.declared.Call.{Call}
use Rattle.gateway.specs.declared.Picked.{Picked}
use Rattle.gateway.specs.declared.Moved.{Moved}
use Rattle.gateway.specs.Tables.{Lent, lent, record_at, blank_record, endpoint_at, ticked, clock_step}
use Rattle.gateway.specs.Tables.{is_reading, at_clock}
use Rattle.gateway.specs.Calls.{Result, admit, admit_entry, acted_of, refused_of, on_entry, shown_in, called_by}
use Rattle.gateway.specs.Calls.{called_of}
use Rattle.gateway.specs.Parts.{with_stored, with_value, with_words, with_error_info, stored_at, value_at, picked}
use Rattle.gateway.specs.Parts.{Handed, with_held, handed_of, opens, stepped_record, PutBy}
use Rattle.gateway.specs.Parts.{settled, before, refused_move, acted_move, shown_move, outcome_move}

-- ---- stores into a list
-- one record replaced by what is made of it; past the slice none
abbrev pub put_at : (Record → Record) → ℕ → List Record → List Record
put_at put n rs = set rs n (put (record_at rs n))

put_past : (put : Record → Record) (xs : List Record) (n : ℕ) → length xs ≤ n → put_at put n xs ≡ xs
put_past put xs n h = sym (set_past xs n (put (record_at xs n)) h)

-- one record by what is made of it, where only one thing can be
pub put_is : (R : Record → Record → Type 0) (put : Record → Record) (n : ℕ) (xs zs : List Record)
    → ((r r' : Record) → R r r' → r' ≡ put r) → PutBy R n xs zs → zs ≡ put_at put n xs
put_is R put n xs zs law u =
    elim (cases_lt n (length xs)) [
      | inl l ↦ let k = u.kept l in k.2 ∙ ap (set xs n) (law (record_at xs n) k.0 k.1)
      | inr l ↦ u.past l ∙ sym (put_past put xs n l)
    ]

-- a record just stored, and put at its place or past the slice
put_over : (put : Record → Record) (xs : List Record) (n room : ℕ) (r : Record) (b : Bool) → n < length xs
    → length xs ≤ room → put_at put (cond b n room) (set xs n r) ≡ set xs n (cond b (put r) r)
put_over put xs n room r true h past =
    ap (λ (x : Record). set (set xs n r) n (put x)) (get_or-set_same xs n r blank_record h) ∙ set-set xs n r (put r)
put_over put xs n room r false h past =
    let l = length-set xs n r in put_past put (set xs n r) room (omega (arith, l, past))

-- ---- what a call's own step makes of a record
-- the value is left, or wiped where none is taken
abbrev settled_record : Record → Stored → Bool → Record
settled_record r s taken = record_with s (cond taken r.value no_bytes) r.words r.errorinfo

wiped : (r : Record) (s : Stored) (taken : Bool)
    → cond taken (with_stored r s) (with_value (with_stored r s) no_bytes) ≡ settled_record r s taken
wiped r s true = refl
wiped r s false = refl

-- its stored part; then what it keeps, a new value or what was handed over
fields : (put : Record → Record) (xs : List Record) (n room : ℕ) (s : Stored) (taken kept : Bool) → n < length xs
    → length xs ≤ room
    → put_at put (cond kept n room) (value_at (cond taken room n) no_bytes (stored_at n s xs))
    ≡ set xs n (cond kept (put (settled_record (record_at xs n) s taken)) (settled_record (record_at xs n) s taken))
fields put xs n room s taken kept h past =
    let r = with_stored (record_at xs n) s in
    let q : value_at (cond taken room n) no_bytes (set xs n r) ≡ set xs n (settled_record (record_at xs n) s taken) =
    ap (λ (i : ℕ). value_at i no_bytes (set xs n r)) (swapped taken)
    ∙ put_over (λ x. with_value x no_bytes) xs n room r (not taken) h past
    ∙ ap (set xs n) (turned taken r (with_value r no_bytes) ∙ wiped (record_at xs n) s taken) in
    ap (put_at put (cond kept n room)) q ∙ put_over put xs n room (settled_record (record_at xs n) s taken) kept h past
  where
    swapped : (b : Bool) → cond b room n ≡ cond (not b) n room
    swapped true = refl
    swapped false = refl

    turned : (b : Bool) (x y : Record) → cond (not b) y x ≡ cond b x y
    turned true x y = refl
    turned false x y = refl

-- ---- what a call keeps of what it is lent: a value that was accepted, the words or the error record handed over
abbrev pub keeps : S.Call → Answer → Bool
keeps (S.act x) a = is_done a && (hands_words x || hands_record x)
keeps (S.send value) a = false
keeps (S.deliver f body) a = is_done a && is f.command K.Refresh
keeps S.show a = false

abbrev pub kept_in : S.Call → List ℕ
kept_in (S.act x) = cond (hands_record x) (padded_record (handed_in x)) (padded_of (handed_in x))
kept_in (S.send value) = []
kept_in (S.deliver f body) = padded_of body
kept_in S.show = []

abbrev pub keeping : S.Call → List ℕ → Record → Record
keeping (S.act x) v r = cond (hands_record x) (with_error_info r v) (with_words r v)
keeping (S.send value) v r = r
keeping (S.deliver f body) v r = with_value r v
keeping S.show v r = r

-- no act hands over both
not_both : (x : S.Act) → (hands_words x && hands_record x) ≡ false
not_both S.start = refl
not_both S.stop = refl
not_both (S.restart number) = refl
not_both (S.set_not_ready b) = refl
not_both (S.set_result body) = refl
not_both S.clear_result = refl
not_both (S.set_record body) = refl
not_both S.clear_record = refl
not_both (S.invoke word bytes) = refl
not_both S.read_error = refl
not_both (S.write_error body) = refl

-- a value that is accepted is taken
left_taken : (a : Answer) (x y z : Endpoint) → is_done a ≡ true → z.value.taken ≡ true → (left_by a x y z).value.taken ≡ true
left_taken (Ok _) x y z h q = q
left_taken (Err (Dropped r)) x y z h q = absurd (false≢true h)
left_taken (Err (Ended r)) x y z h q = absurd (false≢true h)

module _ (e : Endpoint) (t : ℕ) (f : Fields) (body : List ℕ) where
  deliver_taken : (is_done (deliver_of e t f body).answer && is f.command K.Refresh) ≡ true
      → (deliver_of e t f body).endpoint.value.taken ≡ true
  deliver_taken h =
      let k = and_elim_right (is_done (deliver_of e t f body).answer) (is f.command K.Refresh) h in
      let d = and_elim_left (is_done (deliver_of e t f body).answer) (is f.command K.Refresh) h in
      bcase (beq f.application e.settings.slave)
      (λ i. absurd (false≢true (ap (λ (o : Outcome). is_done o.answer) (sym (deliver_echo e t f body i)) ∙ d)))
      (λ i. let q = deliver_refresh e t f body i k in
      ap (λ (o : Outcome). o.endpoint.value.taken) q
      ∙ left_taken (first_of (refresh_faults e t f.subconnection f.timestamp (length body))) e (ended_of e)
      (refreshed_of e t f.timestamp (padded_of body)) (ap (λ (o : Outcome). is_done o.answer) (sym q) ∙ d) refl)

accepted_taken : (e : Endpoint) (t : ℕ) (k : S.Call) → accepts k (S.step_of e t k).answer ≡ true
    → (S.step_of e t k).endpoint.value.taken ≡ true
accepted_taken e t (S.act a) h = absurd (false≢true h)
accepted_taken e t (S.send value) h = absurd (false≢true h)
accepted_taken e t (S.deliver f body) h = deliver_taken e t f body h
accepted_taken e t S.show h = absurd (false≢true h)

-- a record that is settled and put is the one that the definition has
module _ (a : Answer) (r : Record) (s : Stored) (v held : List ℕ) where
  abbrev Made : S.Call → Bool → Type 0
  Made k taken =
      cond (keeps k a) (keeping k v (settled_record r s taken)) (settled_record r s taken)
      ≡ record_with s (cond taken (cond (accepts k a) (padded_of (body_in k)) held) no_bytes) (words_after k a r.words)
      (record_after k a r.errorinfo)

  -- the value stays, or is wiped
  stays : (taken : Bool) → (taken ≡ true → held ≡ r.value) → cond taken r.value no_bytes ≡ cond taken held no_bytes
  stays true h = sym (h refl)
  stays false h = refl

  -- d done, p words, q an error record
  hands : (d p q taken : Bool) (w x : List ℕ) → (p && q) ≡ false → ((d && (p || q)) ≡ true → v ≡ cond q x w)
      → (taken ≡ true → held ≡ r.value)
      → let y = settled_record r s taken in
      cond (d && (p || q)) (cond q (with_error_info y v) (with_words y v)) y
      ≡ record_with s (cond taken held no_bytes) (cond (d && p) w r.words) (cond (d && q) x r.errorinfo)
  hands false p q taken w x n e h = λ i. record_with s (stays taken h i) r.words r.errorinfo
  hands true true true taken w x n e h = absurd (true≢false n)
  hands true true false taken w x n e h = λ i. record_with s (stays taken h i) (e refl i) r.errorinfo
  hands true false true taken w x n e h = λ i. record_with s (stays taken h i) r.words (e refl i)
  hands true false false taken w x n e h = λ i. record_with s (stays taken h i) r.words r.errorinfo

  takes : (b taken : Bool) (w : List ℕ) → (b ≡ true → v ≡ w) → (b ≡ true → taken ≡ true)
      → (taken ≡ true → b ≡ false → held ≡ r.value)
      → cond b (with_value (settled_record r s taken) v) (settled_record r s taken)
      ≡ record_with s (cond taken (cond b w held) no_bytes) r.words r.errorinfo
  takes true true w e t h = ap (λ (x : List ℕ). record_with s x r.words r.errorinfo) (e refl)
  takes true false w e t h = absurd (false≢true (t refl))
  takes false taken w e t h =
      ap (λ (x : List ℕ). record_with s x r.words r.errorinfo) (stays taken (λ q. h q refl))

  made : (k : S.Call) (taken : Bool) → (keeps k a ≡ true → v ≡ kept_in k)
      → (accepts k a ≡ true → taken ≡ true) → (taken ≡ true → accepts k a ≡ false → held ≡ r.value) → Made k taken
  made (S.act x) taken e t h =
      hands (is_done a) (hands_words x) (hands_record x) taken (padded_of (handed_in x)) (padded_record (handed_in x)) (not_both x) e
      (λ q. h q refl)
  made (S.send value) taken e t h =
      ap (λ (x : List ℕ). record_with s x r.words r.errorinfo) (stays taken (λ q. h q refl))
  made (S.deliver f body) taken e t h = takes (is_done a && is f.command K.Refresh) taken (padded_of body) e t h
  made S.show taken e t h =
      ap (λ (x : List ℕ). record_with s x r.words r.errorinfo) (stays taken (λ q. h q refl))

-- ---- a step on a record's stored part with w handed over, and on its whole endpoint: the same, but for the bytes left
module _ (rec : Record) (t : ℕ) (k : S.Call) (quiet : is_show k ≡ false) (w : Handed) where
  abbrev begun : Endpoint
  begun = with_held w (bare_of rec.stored)

  abbrev by_value : Outcome
  by_value = S.step_of begun t k

  abbrev own : Outcome
  own = S.step_of (endpoint_of rec) t k

  -- with what the record has of it, but without its value
  abbrev handing : Endpoint
  handing = with_held (handed_of rec) (bare_of rec.stored)

  abbrev worded : Outcome
  worded = S.step_of handing t k

  pub record OwnLeft : Type 0 where
    pub answered : own.answer ≡ by_value.answer
    pub writes : own.writes ≡ by_value.writes
    pub left : own.endpoint ≡ with_bytes (bytes_after k by_value (held_in rec))
        (with_handed (words_after k by_value.answer rec.words) (record_after k by_value.answer rec.errorinfo)
        by_value.endpoint)
    -- a value that is neither new nor wiped was there
    pub there : by_value.endpoint.value.taken ≡ true → accepts k by_value.answer ≡ false → held_in rec ≡ rec.value

  -- it is the record's, or the call does not look at it
  abbrev pub Reads : Type 0
  Reads = looks begun k ≡ true → w ≡ handed_of rec

  handed_left : Reads → HandedLeft k rec.words rec.errorinfo by_value worded
  handed_left reads =
      bcase (looks begun k)
      (λ h. subst (λ (v : Handed). HandedLeft k rec.words rec.errorinfo
      (S.step_of (with_held v (bare_of rec.stored)) t k) worded)
      (sym (reads h)) (record {
        answered = refl;
        writes = refl;
        left = λ i. with_handed (handed_laws.words handing t k i) (handed_laws.errorinfo handing t k i) worded.endpoint;
      }))
      (λ h. handed_laws.apart begun t k rec.words rec.errorinfo h)

  own_left : Reads → OwnLeft
  own_left reads =
      let u = handed_left reads in
      let l = values handing t k (held_in rec) quiet (records.tidy rec) in
      let taken : worded.endpoint.value.taken ≡ by_value.endpoint.value.taken =
      ap (λ (e : Endpoint). e.value.taken) u.left in
      record {
        answered = l.answered ∙ u.answered;
        writes = l.writes ∙ u.writes;
        left = l.left ∙ (λ i. with_bytes (cond (u.left i).value.taken
            (cond (accepts k (u.answered i)) (padded_of (body_in k)) (held_in rec)) no_bytes) (u.left i));
        there = λ h g. cond_true (is_set rec.stored.taken) rec.value no_bytes
            (l.taken (taken ∙ h) (ap (accepts k) u.answered ∙ g));
      }

-- ---- what a call that goes on tells
pub record Told (r s w o : Bool) : Type 0 where
  pub reading : r ≡ true
  pub whole : s ≡ false
  pub entry : w ≡ true
  pub timely : o ≡ false

pub tells : (reading shorter short within over : Bool) (absent : Reason)
    → is_done (admit reading shorter short (admit_entry within absent (cond over (Err (Ended R.Expired)) (Ok tt)))) ≡ true
    → Told reading shorter within over
tells false shorter short within over absent h = absurd (false≢true h)
tells true true short within over absent h = absurd (false≢true h)
tells true false true within over absent h = absurd (false≢true h)
tells true false false false over absent h = absurd (false≢true h)
tells true false false true true absent h = absurd (false≢true h)
tells true false false true false absent h = record { reading = refl; whole = refl; entry = refl; timely = refl }

module _ (ys : List Record) (c : Call) where
  abbrev d : Lent
  d = lent c.gateway ys

  abbrev t : ℕ
  t = c.clock

  -- the records once the clock step is taken
  abbrev after : List Record
  after = on_first (ticked t) c.gateway.count ys

  length_after : length after ≡ length ys
  length_after = length_first (ticked t) c.gateway.count ys

  -- what is stored, what is kept too, and what is told
  pub record Lands (m : Moved) (put : Record → Record) (r : Result) : Type 0 where
    pub told : m.told ≡ called_of r
    pub left : put_at put m.keep (settled ys m) ≡ r.lent.records

  -- ---- refused before the connection's own step
  length_settled : (m : Moved) → length (settled ys m) ≡ length ys
  length_settled m =
      let xs = on_first (stepped_record m.clock) m.steps ys in
      length-set (stored_at m.spot m.stored xs) m.wipe _ ∙ length-set xs m.spot _
      ∙ length_first (stepped_record m.clock) m.steps ys

  -- where nothing of the connection's own is stored
  past_settled : (s : Stored) (steps : ℕ) → value_at (length ys) no_bytes (stored_at (length ys) s (on_first (ticked t) steps ys))
      ≡ on_first (ticked t) steps ys
  past_settled s steps =
      let xs = on_first (ticked t) steps ys in
      let l = length_first (ticked t) steps ys in
      put_past (λ r. with_value r no_bytes) (stored_at (length ys) s xs) (length ys)
      (omega (arith, l, length-set xs (length ys) (with_stored (record_at xs (length ys)) s)))
      ∙ put_past (λ r. with_stored r s) xs (length ys) (omega (arith, l))

  module _ (s : Stored) (spot : ℕ) where
    abbrev at : Picked
    at = picked s c (length ys) spot

    stepped : (b : Bool) → on_first (ticked t) (cond b c.gateway.count 0) ys ≡ (cond b (clock_step t d) d).records
    unfolding clock_step
    stepped true = refl
    stepped false = refl

    gateway_left : (b : Bool) → cond b (at_clock t c.gateway) c.gateway ≡ (cond b (clock_step t d) d).gateway
    unfolding clock_step
    gateway_left true = refl
    gateway_left false = refl

    named : (b : Bool) (n : ℕ) → (b ≡ true → spot ≡ n) → cond {A = Option ℕ} b (Some spot) None ≡ cond b (Some n) None
    named true n h = ap Some (h refl)
    named false n h = refl

    pub refused_lands : (a : Answer) (n : ℕ) (put : Record → Record) → (is_ended a ≡ true → spot ≡ n)
        → Lands (refused_move at a) put (refused_of a t n d)
    refused_lands a n put h =
        let m = refused_move at a in
        record {
          told = (λ i. called_by (gateway_left (opens at) i) a (named (is_ended a) n h i) 0 false None);
          left = put_past put (settled ys m) (length ys) (omega (arith, length_settled m))
              ∙ past_settled s (cond (opens at) c.gateway.count 0) ∙ stepped (opens at);
        }

  -- ---- the connection's own step
  module _ (n : ℕ) (k : S.Call) (quiet : is_show k ≡ false) (w : Handed) (reads : Reads (record_at ys n) t k quiet w) where
    abbrev rec : Record
    rec = record_at ys n

    abbrev does : Outcome
    does = by_value rec t k quiet w

    law : OwnLeft rec t k quiet w
    law = own_left rec t k quiet w reads

    abbrev kept : Bool
    kept = keeps k does.answer

    abbrev spotted : Picked
    spotted = picked rec.stored c (length ys) n

    abbrev move : Moved
    move = acted_move spotted (stepped_of does.answer (core_of does.endpoint) (length (bytes_of does.writes))) kept

    still : n < c.gateway.count → n < length ys → is_expired (endpoint_of rec) t ≡ false → record_at after n ≡ rec
    still h i x =
        get_d_below (ticked t) c.gateway.count n ys blank_record h i
        ∙ cond_false (is_expired (endpoint_of rec) t) _ rec x

    pub acted_lands : (v : List ℕ) → n < c.gateway.count → n < length ys → is_expired (endpoint_of rec) t ≡ false
        → (kept ≡ true → v ≡ kept_in k)
        → Lands move (keeping k v) (acted_of (own rec t k quiet w) t n d)
    unfolding clock_step
    acted_lands v h i x e =
        let l = law in
        let taken = does.endpoint.value.taken in
        let s = stored_of does.endpoint in
        let q = length_after in
        record {
          told = (λ j. called_by (at_clock t c.gateway) (sym l.answered j) (Some n)
              (length (bytes_of (sym l.writes j))) false None);
          left = fields (keeping k v) after n (length ys) s taken kept (omega (arith, q, i)) (omega (arith, q))
              ∙ ap (λ (r : Record). set after n (cond kept (keeping k v (settled_record r s taken)) (settled_record r s taken)))
              (still h i x)
              ∙ ap (set after n)
              (made does.answer rec s v (held_in rec) k taken e (accepted_taken (begun rec t k quiet w) t k) l.there
              ∙ sym (ap record_of l.left));
        }

    -- ---- a call on an entry
    module _ (short : Bool) (absent : Reason) where
      abbrev answer : Answer
      answer = before spotted short absent

      abbrev comes : Result
      comes = on_entry (λ e. S.step_of e t k) absent d t short n

      abbrev whole_move : Moved
      whole_move = outcome_move spotted answer does kept

      goes_on : is_done answer ≡ true → (n < c.gateway.count) × (n < length ys) × (is_expired (endpoint_of rec) t ≡ false)
      goes_on h =
          let x = tells (is_reading c.gateway t) (ltb (length ys) c.gateway.count) short (ltb n c.gateway.count)
          (is_expired (endpoint_of rec) t) absent h in
          let l = ltb-false (length ys) c.gateway.count x.whole in
          let i = ltb-true n c.gateway.count x.entry in
          (i, omega (arith, l, i), x.timely)

      pub entry_lands : (v : List ℕ) → (kept ≡ true → v ≡ kept_in k) → Lands whole_move (keeping k v) comes
      unfolding endpoint_at
      entry_lands v e =
          bcase (is_done answer)
          (λ h. let g = goes_on h in
          subst (λ (b : Bool). Lands (cond b move (refused_move spotted answer)) (keeping k v)
          (cond b (acted_of (own rec t k quiet w) t n d) (refused_of answer t n d))) (sym h)
          (acted_lands v g.0 g.1 g.2 e))
          (λ h. subst (λ (b : Bool). Lands (cond b move (refused_move spotted answer)) (keeping k v)
          (cond b (acted_of (own rec t k quiet w) t n d) (refused_of answer t n d))) (sym h)
          (refused_lands rec.stored n answer n (keeping k v) (λ x. refl)))

      -- what is written
      pub entry_writes : cond (is_done answer) (bytes_of does.writes) [] ≡ bytes_of comes.writes
      unfolding endpoint_at
      entry_writes = go (is_done answer)
        where
          go : (b : Bool) → cond b (bytes_of does.writes) []
              ≡ bytes_of (cond b (acted_of (own rec t k quiet w) t n d) (refused_of answer t n d)).writes
          go true = ap bytes_of (sym law.writes)
          go false = refl

      -- where nothing is kept, nothing is put after what is settled
      keeps_none : kept ≡ false → whole_move.keep ≡ length ys
      keeps_none h = go (is_done answer)
        where
          go : (b : Bool) → (cond b move (refused_move spotted answer)).keep ≡ length ys
          go true = ap (λ (x : Bool). cond x n (length ys)) h
          go false = refl

      pub entry_settles : kept ≡ false → settled ys whole_move ≡ comes.lent.records
      entry_settles h =
          let q = keeps_none h in
          sym (put_past (keeping k no_bytes) (settled ys whole_move) whole_move.keep
          (omega (arith, q, length_settled whole_move)))
          ∙ (entry_lands no_bytes (λ x. absurd (false≢true (sym h ∙ x)))).left

  -- ---- a show: never 9, and nothing of its own is stored
  pub record Settles (m : Moved) (r : Result) : Type 0 where
    pub told : m.told ≡ called_of r
    pub left : settled ys m ≡ r.lent.records

  module _ (e : Endpoint) (a : Answer) where
    abbrev show_at_law : Picked
    show_at_law = picked (record_at ys c.entry).stored c (length ys) c.entry

    pub show_settles : Settles
        (cond (is_done a) (shown_move show_at_law (length (shown_of e)) (is_fail_safe e) (shown_age e t)) (refused_move show_at_law a))
        (cond (is_done a) (shown_in e t c.entry d) (refused_of a t c.entry d))
    unfolding clock_step
    show_settles = go (is_done a)
      where
        go : (b : Bool) → Settles (cond b (shown_move show_at_law (length (shown_of e)) (is_fail_safe e) (shown_age e t)) (refused_move show_at_law a))
            (cond b (shown_in e t c.entry d) (refused_of a t c.entry d))
        go true = record { told = refl; left = past_settled (record_at ys c.entry).stored c.gateway.count }
        go false =
            let l = refused_lands (record_at ys c.entry).stored c.entry a c.entry (λ r. r) (λ x. refl) in
            record {
              told = l.told;
              left = past_settled (record_at ys c.entry).stored (cond (opens show_at_law) c.gateway.count 0)
                  ∙ stepped (record_at ys c.entry).stored c.entry (opens show_at_law);
            }
