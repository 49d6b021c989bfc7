-- From what the parts of a call ensure to what the call comes to.
use mathlib.Core.Path.{◌≡◌, refl, sym, ap, subst, ◌∙◌}
use Rattle.std.specs.Prelude.{Err, Ok}
use Rattle.frame.specs.Reading.{Reading}
use Rattle.frame.specs.Reading.{frame_with}
use mathlib.Core.Bool.{Bool, true, false, ◌&&◌, ◌||◌, cond, and-false, true≢false, false≢true}
use mathlib.Core.List.{List, []}
use mathlib.Mathlib.Data.Bool.Basic.{and_elim_right}
use Prim.Native.Nat.{ℕ}
use native.Mathlib.Omega.{arith}
use lib.Dec.{eqb, ltb}
use lib.ListN.{length, take}
use lib.Seq.{slice}
use borrow.Author.Tests.{ltb-true, ltb-false, lt-ltb, not-false}
use Rattle.words.specs.Output.{over}
use Rattle.frame.specs.declared.Fields.{Fields}
use Rattle.frame.specs.Control.{is}
use Rattle.frame.specs.Reading.{reading_of, connection_in, body_in}
use Rattle.frame.proofs.Back.{locates}
use Rattle.endpoint.specs.declared.State.TheVariants.{Refresh}
use Rattle.endpoint.specs.Endpoint.{Endpoint, no_bytes, no_record, core_of}
use Rattle.endpoint.specs.declared.Reason.{Reason}
use Rattle.endpoint.specs.declared.Reason.TheVariants as R
use Rattle.endpoint.specs.Answers.{Answer}
use Rattle.endpoint.specs.declared.Refusal.TheVariants.{Dropped}
use Rattle.endpoint.specs.Answers.{is_done, is_ended}
use Rattle.endpoint.specs.Table.{is_state}
use Rattle.endpoint.specs.Time.{is_expired, ended_of, after_tick}
use Rattle.steps.specs.Frames.{nothing, bytes_of, show_width}
use Rattle.steps.specs.Frames.{padded_of}
use Rattle.steps.specs.Calls.{Outcome, stop_of, send_of, is_fail_safe, held_or, shown_of, shown_age}
use Rattle.steps.specs.declared.Stepped.{Stepped}
use Rattle.steps.specs.Says.{stepped_of, plain_step}
use Rattle.steps.specs.Steps as S
use Rattle.steps.specs.Values.{with_bytes, is_show, hands_words, hands_record}
use Rattle.steps.proofs.Dispatch.{cond_true, cond_false}
use Rattle.steps.proofs.Keeps.{bcase}
use Rattle.steps.proofs.Quiet.{by_act}
use Rattle.records.specs.declared.Stored.{Stored}
use Rattle.records.specs.declared.Record.{Record}
use Rattle.records.specs.Records.{is_set, bare_of, held_in, endpoint_of}
use Rattle.gateway.specs.declared.Call.{Call}
use Rattle.gateway.specs.declared.Called.{Called}
use Rattle.gateway.specs.declared.Picked.{Picked}
use Rattle.gateway.specs.declared.Moved.{Moved}
use Rattle.gateway.specs.Tables.{Lent, lent, record_at, blank_record, endpoint_at, place_of, is_reading}
use Rattle.gateway.specs.Calls.{Result, admit, admit_entry, timely, refused_of, on_entry, is_short, send_in, stop_in}
use Rattle.gateway.specs.Calls.{reason_of, shown_in, show_in, by_reading, empty_cycle, deliver_in, CallSays, OutputSays}
use Rattle.gateway.specs.Parts.{Handed, with_value, picked, picked_of, handed, with_held, handed_of, spot_of, met_of, settled}
use Rattle.gateway.specs.Parts.{PutBy, admitted, before, refused_move, acted_move, shown_move, outcome_move, ActMoves}
use Rattle.gateway.specs.Parts.{StepMoves, show_answer, ShowMoves, frame_outcome, FrameMoves, DeliverMoves}
use Rattle.gateway.proofs.OwnStep.{not_done, act_is}
use Rattle.gateway.proofs.Lands.{put_at, put_is, keeps, kept_in, keeping, Reads, Lands, refused_lands, entry_lands}
use Rattle.gateway.proofs.Lands.{entry_writes, entry_settles}
use Rattle.gateway.proofs.Lands.{show_settles}

-- ---- acts, which look at nothing that was handed over; all but a stop write nothing
abbrev pub is_stop : S.Act → Bool
is_stop S.start = false
is_stop S.stop = true
is_stop (S.restart number) = false
is_stop (S.set_not_ready b) = false
is_stop (S.set_result body) = false
is_stop S.clear_result = false
is_stop (S.set_record body) = false
is_stop S.clear_record = false
is_stop (S.invoke word bytes) = false
is_stop S.read_error = false
is_stop (S.write_error body) = false

-- what stands for it where nothing looks at it
abbrev none_handed : Handed
none_handed = handed no_bytes no_record

quiet : (e : Endpoint) (t : ℕ) (a : S.Act) → is_stop a ≡ false → (S.act_of e t a).writes ≡ nothing
quiet e t =
    by_act e t (λ a. is_stop a ≡ false → (S.act_of e t a).writes ≡ nothing) (λ h. absurd (true≢false h))
    (λ a q h. q.writes)

module _ (ys : List Record) (c : Call) (a : S.Act) (silent : is_stop a ≡ false) where
  abbrev entered : Picked
  entered = picked_of ys c

  abbrev acts : Outcome
  acts = S.act_of (bare_of entered.stored) c.clock a

  abbrev hands : Bool
  hands = hands_words a || hands_record a

  abbrev moves : Moved
  moves = outcome_move entered (before entered false R.Entry) acts (keeps (S.act a) acts.answer)

  abbrev comes : Result
  comes = on_entry (λ e. S.act_of e c.clock a) R.Entry (lent c.gateway ys) c.clock false c.entry

  -- nothing is written
  act_moves : (gives : Stepped → Type 0) (handing : Bool) (m : Moved) → ((s : Stepped) → gives s → s ≡ plain_step acts)
      → handing ≡ hands → ActMoves entered gives handing m → m ≡ moves
  act_moves gives handing m law e w =
      act_is entered gives handing acts m law w
      ∙ (λ i. cond (is_done (before entered false R.Entry)) (acted_move entered (stepped_of acts.answer
      (core_of acts.endpoint) (length (bytes_of (sym (quiet (bare_of entered.stored) c.clock a silent) i))))
      (is_done acts.answer && e i)) (refused_move entered (before entered false R.Entry)))

  act_lands : (m : Moved) (v : List ℕ) → m ≡ moves
      → (keeps (S.act a) acts.answer ≡ true → v ≡ kept_in (S.act a)) → Lands ys c m (keeping (S.act a) v) comes
  act_lands m v g e =
      subst (λ (x : Moved). Lands ys c x (keeping (S.act a) v) comes) (sym g)
      (entry_lands ys c c.entry (S.act a) refl none_handed (λ h. absurd (false≢true h)) false R.Entry v e)

  -- an act that hands nothing over
  pub plain_follows : hands ≡ false → (gives : Stepped → Type 0) → ((s : Stepped) → gives s → s ≡ plain_step acts)
      → (m : Moved) → ActMoves entered gives false m → (r : Called) (zs : List Record) → r ≡ m.told → zs ≡ settled ys m
      → CallSays comes zs r
  plain_follows none gives law m w r zs told left =
      let k : keeps (S.act a) acts.answer ≡ false =
      ap (λ (b : Bool). is_done acts.answer && b) none ∙ and-false (is_done acts.answer) in
      let g = act_moves gives false m law (sym none) w in
      record {
        told = told ∙ (act_lands m no_bytes g (λ h. absurd (false≢true (sym k ∙ h)))).told;
        left = left ∙ ap (settled ys) g
            ∙ entry_settles ys c c.entry (S.act a) refl none_handed (λ h. absurd (false≢true h)) false R.Entry k;
      }

  -- an act that hands words or an error record over, which the record keeps
  pub handed_follows : hands ≡ true → (gives : Stepped → Type 0) → ((s : Stepped) → gives s → s ≡ plain_step acts)
      → (leaves : Record → Record → Type 0)
      → ((x y : Record) → leaves x y → y ≡ keeping (S.act a) (kept_in (S.act a)) x)
      → (m : Moved) → ActMoves entered gives true m → (r : Called) (zs : List Record) → r ≡ m.told
      → PutBy leaves m.keep (settled ys m) zs → CallSays comes zs r
  handed_follows some gives law leaves puts m w r zs told left =
      let l = act_lands m (kept_in (S.act a)) (act_moves gives true m law (sym some) w) (λ h. refl) in
      record {
        told = told ∙ l.told;
        left = put_is leaves (keeping (S.act a) (kept_in (S.act a))) m.keep (settled ys m) zs puts left ∙ l.left;
      }

-- ---- calls that are lent an output and keep nothing, with this handed over
module _ (ys : List Record) (c : Call) (k : S.Call) (no_show_law : is_show k ≡ false) (none : (a : Answer) → keeps k a ≡ false)
    (w : Handed) (reads : Reads (record_at ys c.entry) c.clock k no_show_law w) (out out' : List ℕ) where
  abbrev does : Outcome
  does = S.step_of (with_held w (bare_of (picked_of ys c).stored)) c.clock k

  pub output_follows : (m : Moved)
      → StepMoves (picked_of ys c) (before (picked_of ys c) (is_short (length out)) R.Entry) does false out out' m
      → (r : Called) (zs : List Record) → (r ≡ m.told) × (zs ≡ settled ys m)
      → OutputSays (on_entry (λ e. S.step_of e c.clock k) R.Entry (lent c.gateway ys) c.clock (is_short (length out))
      c.entry) zs out out' r
  output_follows m u r zs e =
      let n = c.entry in
      let q = picked_of ys c in
      let short = is_short (length out) in
      let g : m ≡ outcome_move q (before q short R.Entry) does (keeps k does.answer) =
      u.moves ∙ ap (outcome_move q (before q short R.Entry) does) (sym (none does.answer)) in
      record {
        told = e.0 ∙ ap (λ (x : Moved). x.told) g
            ∙ (entry_lands ys c n k no_show_law w reads short R.Entry no_bytes
            (λ h. absurd (false≢true (sym (none does.answer) ∙ h)))).told;
        left = e.1 ∙ ap (settled ys) g ∙ entry_settles ys c n k no_show_law w reads short R.Entry (none does.answer);
        output = u.output ∙ ap (λ (z : List ℕ). over z out) (entry_writes ys c n k no_show_law w reads short R.Entry);
      }

-- a stop looks at nothing of it
pub stop_follows : (ys : List Record) (c : Call) (out out' : List ℕ) (m : Moved)
    → StepMoves (picked_of ys c) (before (picked_of ys c) (is_short (length out)) R.Entry)
    (stop_of (bare_of (picked_of ys c).stored) c.clock) false out out' m
    → (r : Called) (zs : List Record) → (r ≡ m.told) × (zs ≡ settled ys m)
    → OutputSays (stop_in (lent c.gateway ys) c.clock (length out) c.entry) zs out out' r
stop_follows ys c =
    output_follows ys c (S.act S.stop) refl (λ a. and-false (is_done a)) none_handed (λ h. absurd (false≢true h))

pub send_follows : (ys : List Record) (c : Call) (value out out' : List ℕ) (m : Moved)
    → StepMoves (picked_of ys c) (before (picked_of ys c) (is_short (length out)) R.Entry)
    (send_of (with_held (handed_of (record_at ys c.entry)) (bare_of (picked_of ys c).stored)) c.clock value) false out out' m
    → (r : Called) (zs : List Record) → (r ≡ m.told) × (zs ≡ settled ys m)
    → OutputSays (send_in (lent c.gateway ys) c.clock (length out) c.entry value) zs out out' r
send_follows ys c value =
    output_follows ys c (S.send value) refl (λ a. refl) (handed_of (record_at ys c.entry)) (λ h. refl)

-- ---- show
-- bytes that count nowhere are not shown
same_shown : (e : Endpoint) (a b : List ℕ) → (e.value.taken ≡ true → a ≡ b)
    → shown_of (with_bytes a e) ≡ shown_of (with_bytes b e)
same_shown e a b h =
    let w = show_width e.settings in
    bcase (is_fail_safe e)
    (λ s. ap (λ (x : Bool). take w (held_or x a)) s ∙ sym (ap (λ (x : Bool). take w (held_or x b)) s))
    (λ s. ap (λ (x : List ℕ). take w (held_or (is_fail_safe e) x))
    (h (and_elim_right (is_state e.state Refresh) e.value.taken
    (not-false (is_state e.state Refresh && e.value.taken) s))))

-- the value's bytes as they stand in the record, or as they count
module _ (r : Record) (u : ℕ) where
  abbrev raw : Endpoint
  raw = with_bytes r.value (after_tick (bare_of r.stored) u)

  abbrev read : Endpoint
  read = after_tick (endpoint_of r) u

  shown_read : shown_of raw ≡ shown_of read
  shown_read = go (is_expired (endpoint_of r) u)
    where
      go : (b : Bool) → shown_of (with_bytes r.value (cond b (ended_of (bare_of r.stored)) (bare_of r.stored)))
          ≡ shown_of (cond b (ended_of (endpoint_of r)) (endpoint_of r))
      go true = refl
      go false = same_shown (bare_of r.stored) r.value (held_in r)
          (λ h. sym (cond_true (is_set r.stored.taken) r.value no_bytes h))

  aged_read : shown_age raw u ≡ shown_age read u
  aged_read = go (is_expired (endpoint_of r) u)
    where
      go : (b : Bool) → shown_age (with_bytes r.value (cond b (ended_of (bare_of r.stored)) (bare_of r.stored))) u
          ≡ shown_age (cond b (ended_of (endpoint_of r)) (endpoint_of r)) u
      go true = refl
      go false = refl

  marked_read : is_fail_safe raw ≡ is_fail_safe read
  marked_read = go (is_expired (endpoint_of r) u)
    where
      go : (b : Bool) → is_fail_safe (with_bytes r.value (cond b (ended_of (bare_of r.stored)) (bare_of r.stored)))
          ≡ is_fail_safe (cond b (ended_of (endpoint_of r)) (endpoint_of r))
      go true = refl
      go false = refl

pub show_follows : (ys : List Record) (c : Call) (out out' : List ℕ) (m : Moved) (r : Called) (zs : List Record)
    → ShowMoves (picked_of ys c) (record_at ys c.entry).value out out' m → (r ≡ m.told) × (zs ≡ settled ys m)
    → OutputSays (show_in (lent c.gateway ys) c.clock (length out) c.entry) zs out out' r
unfolding endpoint_at
show_follows ys c out out' m r zs w e =
    let q = picked_of ys c in
    let rec = record_at ys c.entry in
    let a = show_answer q (is_short (length out)) in
    let d = lent c.gateway ys in
    let shows : m ≡ cond (is_done a) (shown_move q (length (shown_of (read rec c.clock))) (is_fail_safe (read rec c.clock))
    (shown_age (read rec c.clock) c.clock)) (refused_move q a) =
    w.moves ∙ (λ i. cond (is_done a) (shown_move q (length (shown_read rec c.clock i)) (marked_read rec c.clock i)
    (aged_read rec c.clock i)) (refused_move q a)) in
    let s = show_settles ys c (read rec c.clock) a in
    record {
      told = e.0 ∙ ap (λ (x : Moved). x.told) shows ∙ s.told;
      left = e.1 ∙ ap (settled ys) shows ∙ s.left;
      output = w.output ∙ ap (λ (x : List ℕ). over (cond (is_done a) x []) out) (shown_read rec c.clock)
          ∙ ap (λ (x : List ℕ). over x out) (go rec (is_done a) a d);
    }
  where
    go : (rec : Record) (b : Bool) (a : Answer) (d : Lent) → cond b (shown_of (read rec c.clock)) []
        ≡ bytes_of (cond b (shown_in (read rec c.clock) c.clock c.entry d) (refused_of a c.clock c.entry d)).writes
    go rec true a d = refl
    go rec false a d = refl

-- ---- deliver
-- before a connection's own step nothing but 9 ends a connection
not_ended : (reading shorter short : Bool) (a : Answer) → is_ended a ≡ false → is_ended (admit reading shorter short a) ≡ false
not_ended false shorter short a h = refl
not_ended true true short a h = refl
not_ended true false true a h = refl
not_ended true false false a h = h

-- a record that is past the slice is past the table, so that both ways of asking give one answer
absent_same : (reading shorter short within : Bool) (absent : Reason) (x y : Answer) → (shorter ≡ false → within ≡ false)
    → admit reading shorter short (admit_entry shorter absent x) ≡ admit reading shorter short (admit_entry within absent y)
absent_same false shorter short within absent x y h = refl
absent_same true true short within absent x y h = refl
absent_same true false true within absent x y h = refl
absent_same true false false within absent x y h =
    sym (ap (λ (b : Bool). admit_entry b absent y) (h refl))

absent_refused : (reading shorter short : Bool) (absent : Reason) (x : Answer)
    → (is_done (admit reading shorter short (admit_entry shorter absent x)) ≡ false)
    × (is_ended (admit reading shorter short (admit_entry shorter absent x)) ≡ false)
absent_refused false shorter short absent x = (refl, refl)
absent_refused true true short absent x = (refl, refl)
absent_refused true false true absent x = (refl, refl)
absent_refused true false false absent x = (refl, refl)

module _ (ys : List Record) (c : Call) (w : Handed) (s out out' : List ℕ) (m : Moved) where
  abbrev d : Lent
  d = lent c.gateway ys

  abbrev short : Bool
  short = is_short (length out)

  abbrev v : List ℕ
  v = padded_of (body_in s)

  -- what is stored and told, and what is written
  pub record Comes (r : Result) : Type 0 where
    pub lands : Lands ys c m (λ x. with_value x v) r
    pub writes : out' ≡ over (bytes_of r.writes) out

  -- a move that is refused before the connection's own step
  step_refused : (p : Picked) (a : Answer) (o : Outcome) (accepted : Bool) → is_done a ≡ false
      → StepMoves p a o accepted out out' m
      → (m ≡ refused_move p a) × (out' ≡ out)
  unfolding over
  step_refused p a o accepted h u = (
    u.moves ∙ cond_false (is_done a) _ (refused_move p a) h,
    u.output ∙ ap (λ (b : Bool). over (cond b (bytes_of o.writes) []) out) h,
  )

  -- refused, with no entry
  module _ (x : Stored) (spot : ℕ) where
    abbrev at : Picked
    at = picked x c (length ys) spot

    refused_comes : (a : Answer) (n : ℕ) → is_ended a ≡ false → m ≡ refused_move at a → out' ≡ out
        → Comes (refused_of a c.clock n d)
    unfolding over
    refused_comes a n h q u = record {
      lands = subst (λ (z : Moved). Lands ys c z (λ y. with_value y v) (refused_of a c.clock n d)) (sym q)
          (refused_lands ys c x spot a n (λ y. with_value y v) (λ e. absurd (false≢true (sym h ∙ e))));
      writes = u;
    }

  -- a frame whose connection was found, or not
  module _ (f : Fields) (start end : ℕ) (is : reading_of s ≡ Ok (frame_with f start end)) where
    abbrev body : List ℕ
    body = slice start end s

    abbrev i : ℕ
    i = spot_of ys c (connection_in s)

    place_is : place_of f.connection d ≡ i
    unfolding place_of
    place_is = ap (spot_of ys c) (sym (locates s f start end is).connection)

    frame_in : Result
    frame_in = on_entry (λ e. S.step_of e c.clock (S.deliver f body)) R.Unknown d c.clock short i

    abbrev Moves : Picked → Type 0
    Moves p = FrameMoves p w s (Ok (frame_with f start end)) out out' m × (w ≡ handed_of (record_at ys p.spot))

    met_comes : Moves (picked (record_at ys i).stored c (length ys) i) → Comes frame_in
    unfolding frame_in
    met_comes u =
        let k = S.deliver f body in
        let reads : Reads (record_at ys i) c.clock k refl w =
        λ h. u.1 in
        record {
          lands = subst (λ (z : Moved). Lands ys c z (λ x. with_value x v) frame_in) (sym u.0.moves)
              (entry_lands ys c i k refl w reads short R.Unknown v (λ h. ap padded_of (locates s f start end is).body));
          writes = u.0.output
              ∙ ap (λ (z : List ℕ). over z out) (entry_writes ys c i k refl w reads short R.Unknown);
        }

    unmet_comes : (ltb i c.gateway.count && ltb i (length ys)) ≡ false
        → FrameMoves (picked blank_record.stored c (length ys) (length ys)) w s (Ok (frame_with f start end)) out out' m
        → Comes frame_in
    unfolding frame_in endpoint_at
    unmet_comes h u =
        let blank = blank_record.stored in
        let reading = is_reading c.gateway c.clock in
        let count = c.gateway.count in
        let shorter = ltb (length ys) count in
        let x = timely (bare_of blank) c.clock in
        let y = timely (endpoint_of (record_at ys i)) c.clock in
        let a = admit reading shorter short (admit_entry shorter R.Unknown x) in
        let a' = admit reading shorter short (admit_entry (ltb i count) R.Unknown y) in
        let g = absent_refused reading shorter short R.Unknown x in
        let same : a ≡ a' = absent_same reading shorter short (ltb i count) R.Unknown x y (outside h) in
        let k = step_refused (picked blank c (length ys) (length ys)) a
        (S.step_of (with_held w (bare_of blank)) c.clock (S.deliver f body)) _ g.0 u in
        subst Comes (sym (cond_false (is_done a') _ (refused_of a' c.clock i d) (ap is_done (sym same) ∙ g.0)))
        (subst (λ (z : Answer). Comes (refused_of z c.clock i d)) same
        (refused_comes blank (length ys) a i g.1 k.0 k.1))
      where
        outside : (ltb i c.gateway.count && ltb i (length ys)) ≡ false → ltb (length ys) c.gateway.count ≡ false
            → ltb i c.gateway.count ≡ false
        outside h q =
            bcase (ltb i c.gateway.count)
            (λ e. let l = ltb-false (length ys) c.gateway.count q in
            let n = ltb-true i c.gateway.count e in
            absurd (false≢true (sym h ∙ (λ j. e j && lt-ltb i (length ys) (omega (arith, l, n)) j))))
            (λ e. e)

    frame_comes : Moves (met_of ys c (connection_in s)) → Comes frame_in
    frame_comes u =
        let there = picked (record_at ys i).stored c (length ys) i in
        let nowhere = picked blank_record.stored c (length ys) (length ys) in
        let b = ltb i c.gateway.count && ltb i (length ys) in
        bcase b
        (λ h. met_comes (subst Moves (cond_true b there nowhere h) u))
        (λ h. unmet_comes h (subst Moves (cond_false b there nowhere h) u).0)

    read_comes : Moves (met_of ys c (connection_in s))
        → Comes (by_reading d c.clock (length out) s (Ok (frame_with f start end)))
    unfolding frame_in
    read_comes u =
        subst (λ (n : ℕ). Comes (on_entry (λ e. S.step_of e c.clock (S.deliver f body)) R.Unknown d c.clock short n))
        (sym place_is) (frame_comes u)

  -- what was sought is of this call, and of this slice
  abbrev sought : Picked
  sought = met_of ys c (connection_in s)

  abbrev first : ℕ
  first = spot_of ys c (connection_in s)

  abbrev chosen : Bool → Picked
  chosen b =
      cond b (picked (record_at ys first).stored c (length ys) first)
      (picked blank_record.stored c (length ys) (length ys))

  sought_is : sought ≡ picked sought.stored c (length ys) sought.spot
  sought_is = go (ltb first c.gateway.count && ltb first (length ys))
    where
      go : (b : Bool) → chosen b ≡ picked (chosen b).stored c (length ys) (chosen b).spot
      go true = refl
      go false = refl

  fault_comes : (a : Answer) → is_ended (admitted sought short a) ≡ false → m ≡ refused_move sought (admitted sought short a)
      → out' ≡ out
      → Comes (refused_of (admit (is_reading c.gateway c.clock) (ltb (length ys) c.gateway.count) short a) c.clock 0 d)
  fault_comes a =
      subst (λ (p : Picked). is_ended (admitted p short a) ≡ false → m ≡ refused_move p (admitted p short a) → out' ≡ out
      → Comes (refused_of (admit (is_reading c.gateway c.clock) (ltb (length ys) c.gateway.count) short a) c.clock 0 d))
      (sym sought_is)
      (refused_comes sought.stored sought.spot
      (admit (is_reading c.gateway c.clock) (ltb (length ys) c.gateway.count) short a) 0)

  by_reading_law : (x : Reading) → reading_of s ≡ x → w ≡ handed_of (record_at ys sought.spot) → FrameMoves sought w s x out out' m
      → Comes (by_reading d c.clock (length out) s x)
  by_reading_law (Ok read) is w_is u = read_comes read.fields read.start read.end is (u, w_is)
  by_reading_law (Err fault) is w_is u =
      let a = Err (Dropped (reason_of fault)) in
      let g = is_reading sought.call.gateway sought.call.clock in
      let l = ltb sought.room sought.call.gateway.count in
      let k = step_refused sought (admitted sought short a) (frame_outcome sought w s (Err fault)) false
      (not_done g l short (reason_of fault)) u in
      fault_comes a (not_ended g l short a refl) k.0 k.1

  pub deliver_comes : w ≡ handed_of (record_at ys sought.spot) → DeliverMoves sought w s out out' m
      → Comes (deliver_in d c.clock (length out) s)
  deliver_comes w_is u =
      let none = empty_cycle d c.clock short in
      let some = by_reading d c.clock (length out) s (reading_of s) in
      bcase (eqb (length s) 0)
      (λ h. let e = u.empty h in
      subst Comes (sym (cond_true (eqb (length s) 0) none some h))
      (fault_comes (Ok tt) (not_ended (is_reading sought.call.gateway sought.call.clock)
      (ltb sought.room sought.call.gateway.count) short (Ok tt) refl) e.moves e.output))
      (λ h. subst Comes (sym (cond_false (eqb (length s) 0) none some h)) (by_reading_law (reading_of s) refl w_is (u.frame h)))

pub deliver_follows : (ys : List Record) (c : Call) (s out out' : List ℕ) (w : Handed) (m : Moved)
    → w ≡ handed_of (record_at ys (met_of ys c (connection_in s)).spot)
    → DeliverMoves (met_of ys c (connection_in s)) w s out out' m
    → (leaves : Record → Record → Type 0)
    → ((x y : Record) → leaves x y → y ≡ with_value x (padded_of (body_in s)))
    → (r : Called) (us zs : List Record) → (r ≡ m.told) × (us ≡ settled ys m) → PutBy leaves m.keep us zs
    → OutputSays (deliver_in (lent c.gateway ys) c.clock (length out) s) zs out out' r
deliver_follows ys c s out out' w m is e leaves puts r us zs said left =
    let u = deliver_comes ys c w s out out' m is e in
    let put : Record → Record = λ x. with_value x (padded_of (body_in s)) in
    record {
      told = said.0 ∙ u.lands.told;
      left = put_is leaves put m.keep us zs puts left ∙ ap (put_at put m.keep) said.1 ∙ u.lands.left;
      output = u.writes;
    }
