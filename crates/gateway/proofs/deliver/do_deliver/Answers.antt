-- Numbers 4 to 7, or the frame's own step.
use Rattle.std.proofs.Common.{◌≡◌, refl, sym, ap, subst, ◌∙◌, ℕ, List, ltb, ◌≤◌, eqb, Bool, ◌&&◌, true, false, length, rules}
use Rattle.std.specs.Prelude.{Err, Ok}
use Rattle.std.proofs.lemmas.Bool.{false≢true}
use Rattle.std.specs.Result.{result_and}
use Rattle.std.proofs.Math.Seq.{slice}
use borrow.Author.Tests.{tests}
use denote.Enum.Bare.{sameb}
use Rattle.frame.specs.contracts.Command.{the_type}
use Rattle.frame.specs.declared.Command.{Command}
use Rattle.frame.specs.Control.{is}
use Rattle.frame.specs.declared.Command.TheVariants as K
use Rattle.frame.specs.declared.Frame.{Frame}
use Rattle.frame.specs.Reading.{Reading, reading_of}
use Rattle.frame.proofs.ReadBack.{round_trip}
use Rattle.endpoint.specs.declared.Reason.TheVariants as R
use Rattle.endpoint.specs.declared.Refusal.TheVariants.{Dropped}
use Rattle.endpoint.specs.Answers.{Answer, is_done}
use Rattle.steps.specs.Says.{with_room, StepSays}
use Rattle.steps.specs.Deliveries.{deliver_of}
use Rattle.endpoint.specs.Endpoint.{bare}
use Rattle.steps.specs.Values.{with_handed}
use Rattle.gateway.specs.declared.Picked.{Picked}
use Rattle.gateway.specs.declared.Moved.{Moved}
use Rattle.gateway.specs.Tables.{is_reading}
use Rattle.gateway.specs.Calls.{admit, is_short, reason_of}
use Rattle.gateway.specs.Parts.{Handed, handed_of, refused_move, acted_move, FrameMoves, DeliverMoves, frame_answer, frame_outcome}
use Rattle.gateway.specs.Parts.{accepts_value}
use Rattle.gateway.proofs.BodyPart.{part}
use Rattle.gateway.proofs.OwnStep.{not_done, undone, refused_moves, acted_moves, given}
use Rattle.gateway.proofs.deliver.do_deliver.Goals as goal

-- bytes came, and were read
by_frame : (p : Picked) (w : Handed) (s out out' : List ℕ) (r : Reading) (m : Moved) → eqb (length s) 0 ≡ false → reading_of s ≡ r
    → FrameMoves p w s r out out' m → DeliverMoves p w s out out' m
by_frame p w s out out' r m n q f = record {
  empty = λ h. absurd (false≢true (sym n ∙ h));
  frame = λ h. subst (λ (x : Reading). FrameMoves p w s x out out' m) (sym q) f;
}

-- what is refused is refused whatever comes after it
and_then : (reading shorter short : Bool) (then : Answer)
    → result_and (admit reading shorter short (Ok tt)) then ≡ admit reading shorter short then
and_then false shorter short then = refl
and_then true true short then = refl
and_then true false true then = refl
and_then true false false then = refl

within : (s : List ℕ) (x : Frame) → reading_of s ≡ Ok x → (x.start ≤ x.end) × (x.end ≤ length s)
within s x q = round_trip.within s _ _ _ q

-- `==` at commands is that of their codes
same_refresh : (k : Command) → sameb the_type k K.Refresh ≡ is k K.Refresh
same_refresh K.Connect = refl
same_refresh K.ConfirmNetwork = refl
same_refresh K.VerifyStation = refl
same_refresh K.InvokeFunc = refl
same_refresh K.Disconnect = refl
same_refresh K.ReadErrorInfo = refl
same_refresh K.WriteErrorInfo = refl
same_refresh K.RefreshReady = refl
same_refresh K.RefreshMo = refl
same_refresh K.RefreshGo = refl
same_refresh K.Refresh = refl

pub returns-in-Err : goal.returns-in-Err
returns-in-Err c =
    let p = c.args.p in
    let w = handed_of c.args.record.now in
    let s = c.args.bytes.now in
    let out = c.args.out.now in
    let short = is_short (length out) in
    let f = Err c.in-Err.fault in
    by_frame p w s out out f c.refused-in-Err.result (search (rules, tests)) (sym c.read_frame.ensures ∙ c.in-Err.is)
    (refused_moves p out out (frame_answer p short f) (frame_outcome p w s f) false c.refused-in-Err.result
    (not_done (is_reading p.call.gateway p.call.clock) (ltb p.room p.call.gateway.count) short (reason_of c.in-Err.fault))
    (c.refused-in-Err.ensures ∙ ap (refused_move p) (c.and.ensures
    ∙ (λ i. result_and (c.admitted-in-Err.ensures i) (Err (Dropped (c.reason_of.ensures i))))
    ∙ and_then (is_reading p.call.gateway p.call.clock) (ltb p.room p.call.gateway.count) short
    (Err (Dropped (reason_of c.in-Err.fault))))) refl)

pub returns-in-Ok-before : goal.returns-in-Ok-before
returns-in-Ok-before c =
    let refreshes : c.eq-refreshes.result ≡ is c.in-Ok.frame.fields.command K.Refresh =
    c.eq-refreshes.ensures ∙ same_refresh c.in-Ok.frame.fields.command in
    let p = c.args.p in
    let r = c.args.record.now in
    let s = c.args.bytes.now in
    let out = c.args.out.now in
    let out' = c.deliver-step.new.out in
    let x = c.in-Ok.frame in
    let q : reading_of s ≡ Ok x = sym c.read_frame.ensures ∙ c.in-Ok.is in
    let w = within s x q in
    let refresh = is x.fields.command K.Refresh in
    let step = c.deliver-step.result in
    by_frame p (handed_of r) s out out' (Ok x) c.acted.result (search (rules, tests)) q
    (acted_moves p out out' R.Unknown (frame_outcome p (handed_of r) s (Ok x)) (λ a. is_done a && refresh) step c.acted.result
    (ap is_done (sym c.before-in-Ok.ensures ∙ c.in-Ok-before.is))
    (given p out out' r (λ e. deliver_of e p.call.clock x.fields (slice x.start x.end s)) c.core.result _ _ step c.core.ensures
    c.held.ensures (subst (λ (z : List ℕ). StepSays (with_room (length out) (bare c.core.result)
    (deliver_of (with_handed c.held.result.words.now c.held.result.errorinfo.now (bare c.core.result)) p.call.clock x.fields z))
    out out' step) (sym (part s x.start x.end w.0 w.1)) c.deliver-step.ensures))
    (c.acted.ensures ∙ ap (λ (b : Bool). acted_move p step (is_done step.answer && b)) refreshes))

pub returns-in_default : goal.returns-in_default
returns-in_default c =
    let p = c.args.p in
    let w = handed_of c.args.record.now in
    let s = c.args.bytes.now in
    let out = c.args.out.now in
    let f = Ok c.in-Ok.frame in
    by_frame p w s out out f c.refused-in_default.result (search (rules, tests)) (sym c.read_frame.ensures ∙ c.in-Ok.is)
    (refused_moves p out out (frame_answer p (is_short (length out)) f) (frame_outcome p w s f)
    (accepts_value p f (frame_outcome p w s f).answer) c.refused-in_default.result
    (ap is_done (sym c.before-in-Ok.ensures) ∙ undone c.before-in-Ok.result c.in_default.not-Ok)
    (c.refused-in_default.ensures ∙ ap (refused_move p) c.before-in-Ok.ensures) refl)

pub slice_bounds-body-count : goal.slice_bounds-body-count
slice_bounds-body-count c = (within c.args.bytes.now c.in-Ok.frame (sym c.read_frame.ensures ∙ c.in-Ok.is)).0

pub slice_bounds-body-start : goal.slice_bounds-body-start
slice_bounds-body-start c = (within c.args.bytes.now c.in-Ok.frame (sym c.read_frame.ensures ∙ c.in-Ok.is)).0

pub slice_bounds-body-end : goal.slice_bounds-body-end
slice_bounds-body-end c = (within c.args.bytes.now c.in-Ok.frame (sym c.read_frame.ensures ∙ c.in-Ok.is)).1
