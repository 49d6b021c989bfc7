-- What a call's own step moves: what a function of `steps` told, or a refusal before it.
use mathlib.Core.Path.{◌≡◌, refl, sym, ap, subst, ◌∙◌}
use Rattle.std.specs.Prelude.{Err, Ok}
use mathlib.Core.Bool.{Bool, true, false, ◌&&◌, cond, false≢true}
use mathlib.Core.List.{List, []}
use Prim.Native.Nat.{ℕ, ◌+◌, ◌/◌}
use lib.Dec.{ltb}
use lib.ListN.{length, length-append}
use Rattle.words.specs.Output.{over}
use Rattle.words.specs.Words.{word_bytes}
use Rattle.endpoint.specs.declared.Core.{Core}
use Rattle.endpoint.specs.Endpoint.{Endpoint, words_of, bare, core_of}
use Rattle.endpoint.specs.Due.{may_queue}
use Rattle.endpoint.specs.Updates.{with_words}
use Rattle.endpoint.specs.declared.Reason.{Reason}
use Rattle.endpoint.specs.declared.Reason.TheVariants as R
use Rattle.endpoint.specs.Answers.{Answer}
use Rattle.endpoint.specs.declared.Refusal.TheVariants.{Dropped, Ended}
use Rattle.endpoint.specs.Answers.{first_of, is_done}
use Rattle.transitions.specs.ByCall.{invoked_of}
use Rattle.steps.specs.declared.Stepped.{Stepped}
use Rattle.steps.specs.declared.Shown.{Shown}
use Rattle.steps.specs.Frames.{nothing, bytes_of}
use Rattle.steps.specs.Calls.{Outcome, outcome, dropped, hand_faults, result_with, invoke_with, command_data, shown_of}
use Rattle.steps.specs.Says.{with_room, stepped_of, plain_step, StepSays, shown_to, ShowSays}
use Rattle.steps.proofs.Dispatch.{cond_true, cond_false}
use Rattle.steps.proofs.Keeps.{bcase}
use Rattle.gateway.specs.declared.Picked.{Picked}
use Rattle.gateway.specs.declared.Moved.{Moved}
use Rattle.steps.specs.Values.{with_handed}
use Rattle.records.specs.declared.Record.{Record}
use Rattle.records.specs.Records.{bare_of}
use Rattle.gateway.specs.Tables.{is_reading}
use Rattle.gateway.specs.Calls.{admit, admit_entry, timely, is_short}
use Rattle.gateway.specs.Parts.{with_held, handed_of, admitted, before, refused_move, acted_move, shown_move, plain_move, ActMoves}
use Rattle.gateway.specs.Parts.{StepMoves, to_show, show_answer, ShowMoves}

-- ---- words that a user hands over: what is told and stored does not turn on their bytes
either_same : (b : Bool) (x y e : Endpoint) (a : Answer) → core_of x ≡ core_of y
    → plain_step (cond b (outcome (Ok tt) x nothing) (dropped e a)) ≡ plain_step (cond b (outcome (Ok tt) y nothing) (dropped e a))
either_same true x y e a h = ap (λ (c : Core). stepped_of (Ok tt) c 0) h
either_same false x y e a h = refl

pub result_same : (e : Endpoint) (n : ℕ) (b b' : List ℕ) → plain_step (result_with e n b) ≡ plain_step (result_with e n b')
result_same e n b b' =
    let a = first_of (hand_faults e.settings.slave n) in
    either_same (is_done a) (with_words (words_of (n / 4) b) e) (with_words (words_of (n / 4) b') e) e a refl

pub invoke_same : (e : Endpoint) (n : ℕ) (b b' : List ℕ) → plain_step (invoke_with e n b) ≡ plain_step (invoke_with e n b')
invoke_same e n b b' =
    let a = first_of (hand_faults (may_queue e) n) in
    either_same (is_done a) (invoked_of e (words_of (n / 4) b)) (invoked_of e (words_of (n / 4) b')) e a refl

pub command_length : (word : ℕ) (bytes : List ℕ) → 4 + length bytes ≡ length (command_data word bytes)
command_length word bytes = sym (length-append (word_bytes word) bytes)

-- a call that goes on was lent enough room
pub roomy : (reading shorter short : Bool) (then : Answer) → is_done (admit reading shorter short then) ≡ true
    → short ≡ false
roomy reading shorter false then h = refl
roomy false shorter true then h = absurd (false≢true h)
roomy true true true then h = absurd (false≢true h)
roomy true false true then h = absurd (false≢true h)

-- numbers 4 to 8, or one before them
pub not_done : (reading shorter short : Bool) (r : Reason) → is_done (admit reading shorter short (Err (Dropped r))) ≡ false
not_done true true short r = refl
not_done true false true r = refl
not_done true false false r = refl
not_done false shorter short r = refl

-- refused is what is not done
pub undone : (a : Answer) → ((x : Unit) → a ≡ Ok x → ⊥) → is_done a ≡ false
undone (Ok x) h = absurd (h x refl)
undone (Err (Dropped r)) h = refl
undone (Err (Ended r)) h = refl

roomy_in : (p : Picked) (short : Bool) (then : Answer) → is_done (admitted p short then) ≡ true → short ≡ false
roomy_in p short then h =
    roomy (is_reading p.call.gateway p.call.clock) (ltb p.room p.call.gateway.count) short then h

-- ---- a call that is lent no output
pub act_is : (p : Picked) (gives : Stepped → Type 0) (hands : Bool) (o : Outcome) (m : Moved)
    → ((s : Stepped) → gives s → s ≡ plain_step o) → ActMoves p gives hands m
    → m ≡ plain_move p (before p false R.Entry) (plain_step o) (is_done o.answer && hands)
act_is p gives hands o m law w =
    let a = before p false R.Entry in
    let acted = acted_move p (plain_step o) (is_done o.answer && hands) in
    bcase (is_done a)
    (λ h. let x = w.acted h in
    x.2 ∙ ap (λ (s : Stepped). acted_move p s (is_done s.answer && hands)) (law x.0 x.1)
    ∙ sym (cond_true (is_done a) acted (refused_move p a) h))
    (λ h. w.refused h ∙ sym (cond_false (is_done a) acted (refused_move p a) h))

module _ (p : Picked) (out out' : List ℕ) where
  -- what comes after numbers 1 and 2
  abbrev entered : Reason → Answer → Answer
  entered absent then = admit_entry (ltb p.spot p.call.gateway.count) absent then

  -- ---- a call that is lent one: nothing is written where it is refused
  pub refused_moves : (a : Answer) (o : Outcome) (kept : Bool) (m : Moved) → is_done a ≡ false → m ≡ refused_move p a
      → out' ≡ out → StepMoves p a o kept out out' m
  unfolding over
  refused_moves a o kept m n r u = record {
    moves = r ∙ sym (cond_false (is_done a) _ (refused_move p a) n);
    output = u ∙ sym (ap (λ (x : Bool). over (cond x (bytes_of o.writes) []) out) n);
  }

  pub acted_moves : (absent : Reason) (o : Outcome) (keeps : Answer → Bool) (s : Stepped) (m : Moved)
      → is_done (before p (is_short (length out)) absent) ≡ true
      → StepSays (with_room (length out) (bare_of p.stored) o) out out' s
      → m ≡ acted_move p s (keeps s.answer)
      → StepMoves p (before p (is_short (length out)) absent) o (keeps o.answer) out out' m
  acted_moves absent o keeps s m g v r =
      let a = before p (is_short (length out)) absent in
      let e = bare_of p.stored in
      let short : is_short (length out) ≡ false = roomy_in p (is_short (length out))
      (entered absent (timely e p.call.clock)) g in
      let w : with_room (length out) e o ≡ o = ap (λ (x : Bool). cond x (with_room 0 e o) o) short in
      record {
        moves = r ∙ (λ i. let x = (v.answered ∙ ap (λ (y : Outcome). y.answer) w) i in
            acted_move p (stepped_of x ((v.left ∙ ap (λ (y : Outcome). core_of y.endpoint) w) i)
            ((v.counted ∙ ap (λ (y : Outcome). length (bytes_of y.writes)) w) i)) (keeps x))
            ∙ sym (cond_true (is_done a) _ (refused_move p a) g);
        output = v.output ∙ ap (λ (x : Outcome). over (bytes_of x.writes) out) w
            ∙ sym (ap (λ (x : Bool). over (cond x (bytes_of o.writes) []) out) g);
      }

  -- what its user has handed over is the record's
  pub given : (r : Record) (act : Endpoint → Outcome) (e : Core) (words errorinfo : List ℕ) (s : Stepped)
      → e ≡ core_of (bare_of p.stored) → (words ≡ r.words) × (errorinfo ≡ r.errorinfo)
      → StepSays (with_room (length out) (bare e) (act (with_handed words errorinfo (bare e)))) out out' s
      → StepSays (with_room (length out) (bare_of p.stored) (act (with_held (handed_of r) (bare_of p.stored)))) out out' s
  given r act e words errorinfo s q h =
      subst (λ (o : Outcome). StepSays o out out' s)
      (λ i. with_room (length out) (bare (q i)) (act (with_handed (h.0 i) (h.1 i) (bare (q i)))))

  -- ---- a show
  pub not_shown : (bytes : List ℕ) (m : Moved) → is_done (show_answer p (is_short (length out))) ≡ false
      → m ≡ refused_move p (show_answer p (is_short (length out))) → out' ≡ out → ShowMoves p bytes out out' m
  unfolding over
  not_shown bytes m n r u =
      let a = show_answer p (is_short (length out)) in
      record {
        moves = r ∙ sym (cond_false (is_done a) _ (refused_move p a) n);
        output = u ∙ sym (ap (λ (x : Bool). over (cond x (shown_of (to_show p bytes)) []) out) n);
      }

  pub shown_moves : (bytes : List ℕ) (s : Shown) (m : Moved) → is_done (show_answer p (is_short (length out))) ≡ true
      → ShowSays (to_show p bytes) p.call.clock out out' s → m ≡ shown_move p s.count s.failsafe s.age
      → ShowMoves p bytes out out' m
  shown_moves bytes s m g v r =
      let a = show_answer p (is_short (length out)) in
      let e = to_show p bytes in
      let short : is_short (length out) ≡ false = roomy_in p (is_short (length out)) (entered R.Entry (Ok tt)) g in
      let w : shown_to (length out) e ≡ shown_of e = ap (λ (x : Bool). cond x [] (shown_of e)) short in
      record {
        moves = r ∙ (λ i. shown_move p ((v.counted ∙ ap length w) i) (v.marked i) (v.aged i))
            ∙ sym (cond_true (is_done a) _ (refused_move p a) g);
        output = v.output ∙ ap (λ (x : List ℕ). over x out) w
            ∙ sym (ap (λ (x : Bool). over (cond x (shown_of e) []) out) g);
      }
