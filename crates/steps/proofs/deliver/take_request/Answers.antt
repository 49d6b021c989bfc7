-- `steps::deliver::take_request` meets its contract: dropped, S-Disconnect, which writes nothing, or the reply.
use Rattle.std.proofs.Common.{rules}
use lib.ListN.{length}
use mathlib.Core.Bool.{Bool, true, false, ◌||◌, ◌&&◌, not, cond}
use mathlib.Core.List.{List}
use mathlib.Core.Path.{◌≡◌, sym, ap, ◌∙◌}
use Prim.Native.Nat.{ℕ}
use Rattle.frame.specs.declared.Command.TheVariants as K
use Rattle.frame.specs.declared.Fields.{Fields}
use Rattle.frame.specs.Control.{is}
use Rattle.errors.specs.Reading.{more_follows}
use Rattle.endpoint.specs.Answers.{Answer}
use Rattle.endpoint.specs.declared.Core.{Core}
use Rattle.endpoint.specs.Endpoint.{Endpoint, bare, core_of}
use Rattle.endpoint.specs.Answers.{first_of, is_done, is_dropped, is_ended, left_by}
use Rattle.transitions.specs.ByFrame.{ended_by, taken_of}
use Rattle.steps.specs.Calls.{outcome}
use Rattle.steps.specs.Deliveries.{request_faults, replied_of, take_request}
use Rattle.steps.specs.Frames.{Written, nothing, frame, reply_fields, is_busy, reply_data}
use Rattle.steps.specs.Says.{stepped_of}
use Rattle.steps.specs.Values.{with_handed}
use Rattle.steps.proofs.Firsts.{request_width}
use Rattle.steps.proofs.Handed.{left_core}
use Rattle.steps.proofs.Left.{left_dropped, left_answered, is_ok_done, ends}
use Rattle.steps.proofs.Outcomes.{quiet_step, loud_step}
use Rattle.steps.proofs.Whole.{whole, reply_writable}
use Rattle.steps.proofs.deliver.take_request.Goals.{in-Ok, in-Err-Ended, then-done, else-done}
use Rattle.steps.proofs.deliver.take_request.Goals as goal

-- what a request with this answer comes to
abbrev leaves : Endpoint → ℕ → Fields → List ℕ → Answer → Endpoint
leaves e t f body a = cond (is_done a) (taken_of e t f (more_follows body)) (ended_by e f.timestamp)

module _ (e : Endpoint) (t : ℕ) (f : Fields) (body : List ℕ) (a : Answer) (q : a ≡ first_of (request_faults e t f body)) where
  abbrev over : Endpoint
  over = ended_by e f.timestamp

  abbrev next : Endpoint
  next = taken_of e t f (more_follows body)

  by : take_request e t f body ≡ outcome a (left_by a e over next) (replied_of e f body a)
  by = ap (λ (x : Answer). outcome x (left_by x e over next) (replied_of e f body x)) (sym q)

  abbrev reply : Bool → Bool → Written
  reply dropped disconnect =
      cond (dropped || disconnect) nothing
      (frame (reply_fields e f (is_done a && is_busy e f.command (length body)) (is_ended a))
      (reply_data e f.command (is_done a) body))

  dropped-is : is_dropped a ≡ true → take_request e t f body ≡ outcome a e nothing
  dropped-is h =
      by ∙ (λ i. outcome a (left_dropped e over next a h i) (reply (h i) (is f.command K.Disconnect)))

  answered-is : (b : Bool) → is_dropped a ≡ false → is f.command K.Disconnect ≡ b
      → take_request e t f body ≡ outcome a (leaves e t f body a) (reply false b)
  answered-is b h k = by ∙ (λ i. outcome a (left_answered e over next a h i) (reply (h i) (k i)))

-- what an answered request leaves, whatever its user handed over
left-is : (e : Endpoint) (w x : List ℕ) (t : ℕ) (f : Fields) (body : List ℕ) (a : Answer) (z : Core) (done : Bool)
    → z ≡ core_of (cond done (taken_of e t f (more_follows body)) (ended_by e f.timestamp)) → is_done a ≡ done
    → z ≡ core_of (leaves (with_handed w x e) t f body a)
left-is e w x t f body a z done p h =
    p ∙ left_core e w x t f (more_follows body) done
    ∙ ap (λ (d : Bool). core_of (cond d (taken_of (with_handed w x e) t f (more_follows body)) (ended_by (with_handed w x e) f.timestamp)))
    (sym h)

pub returns-in-Err-Dropped : goal.returns-in-Err-Dropped
returns-in-Err-Dropped c =
    let a = c.args in
    let e = with_handed a.handed.words.now a.handed.errorinfo.now (bare a.e) in
    let r = c.request_answer-answer.result in
    quiet_step a.out.now (take_request e a.clock a.f a.body.now) r e
    (dropped-is e a.clock a.f a.body.now r c.request_answer-answer.ensures (search rules)) c.plain.ensures

pub returns-then-eq : goal.returns-then-eq
returns-then-eq c =
    let a = c.args in
    let w = a.handed.words.now in
    let y = a.handed.errorinfo.now in
    let e = with_handed w y (bare a.e) in
    let x = a.body.now in
    let r = c.request_answer-answer.result in
    let kept : is_dropped r ≡ false = elim c.match-answer.branch [
      | in-Ok v ↦ search rules
      | in-Err-Ended v ↦ search rules
    ] in
    let next = leaves e a.clock a.f x r in
    let left : c.match-answer.core ≡ core_of next = elim c.match-answer.branch [
      | in-Ok v ↦ left-is (bare a.e) w y a.clock a.f x r c.match-answer.core true
          (v.core-is ∙ rw v.more_follows.ensures at v.taken-core.ensures) (search rules)
      | in-Err-Ended v ↦ left-is (bare a.e) w y a.clock a.f x r c.match-answer.core false (v.core-is ∙ v.ended_by-core.ensures)
          (search rules)
    ] in
    quiet_step a.out.now (take_request e a.clock a.f x) r next
    (answered-is e a.clock a.f x r c.request_answer-answer.ensures true kept (search rules))
    (c.plain-then-eq.ensures ∙ ap (λ (z : Core). stepped_of r z 0) left)

pub returns : goal.returns
returns c =
    let a = c.args in
    let w = a.handed.words.now in
    let y = a.handed.errorinfo.now in
    let e = with_handed w y (bare a.e) in
    let x = a.body.now in
    let k = a.f.command in
    let r = c.request_answer-answer.result in
    let kept : is_dropped r ≡ false = elim c.match-answer.branch [
      | in-Ok v ↦ search rules
      | in-Err-Ended v ↦ search rules
    ] in
    let next = leaves e a.clock a.f x r in
    let left : c.match-answer.core ≡ core_of next = elim c.match-answer.branch [
      | in-Ok v ↦ left-is (bare a.e) w y a.clock a.f x r c.match-answer.core true
          (v.core-is ∙ rw v.more_follows.ensures at v.taken-core.ensures) (search rules)
      | in-Err-Ended v ↦ left-is (bare a.e) w y a.clock a.f x r c.match-answer.core false (v.core-is ∙ v.ended_by-core.ensures)
          (search rules)
    ] in
    let other : is k K.Disconnect ≡ false = search rules in
    let done : c.is_ok-done.result ≡ is_done r = c.is_ok-done.ensures.value ∙ is_ok_done r in
    let b = is_busy e k (length x) in
    let busy : c.if-done.busy ≡ (is_done r && b) = elim c.if-done.branch [
      | then-done v ↦ v.busy-is ∙ v.is_busy-busy.ensures ∙ sym (ap (λ (d : Bool). d && b) (sym done ∙ v.if-done.true))
      | else-done v ↦ v.busy-is ∙ v.if-done.false ∙ sym (ap (λ (d : Bool). d && b) (sym done ∙ v.if-done.false))
    ] in
    let g = reply_fields e a.f (is_done r && b) (is_ended r) in
    let fields : c.reply_fields.result ≡ g =
    c.reply_fields.ensures
    ∙ (λ n. reply_fields e a.f (busy n) ((ap not done ∙ ends r kept) n)) in
    let d = reply_data e k (is_done r) x in
    let n = request_width e a.clock a.f x (rw (← c.request_answer-answer.ensures) kept) in
    loud_step a.out.now (take_request e a.clock a.f x) r next g d
    (answered-is e a.clock a.f x r c.request_answer-answer.ensures false kept other)
    (whole g d a.out.now c.requires.0
    (reply_writable e a.clock a.f (is_done r) (is_ended r) x c.requires.1 other n)
    (rw (c.head_of-head.ensures, fields, done) at c.write_reply-count.ensures))
    (ap (λ (z : Core). stepped_of r z c.write_reply-count.result) left)
