-- Where nothing refuses it, what the clock step leaves is shown.
use Rattle.std.proofs.Common.{◌≡◌, refl, sym, ap, subst, ◌∙◌, Bool, true, false, cond, ℕ, List}
use Rattle.endpoint.specs.declared.Core.{Core}
use Rattle.endpoint.specs.Endpoint.{Endpoint, bare, core_of}
use Rattle.endpoint.specs.Answers.{is_done}
use Rattle.endpoint.specs.Time.{is_expired, ended_of}
use Rattle.steps.specs.Says.{ShowSays}
use Rattle.steps.specs.Values.{with_bytes}
use Rattle.records.specs.declared.Stored.{Stored}
use Rattle.records.specs.Records.{bare_of, ended_stored}
use Rattle.gateway.specs.Parts.{refused_move}
use Rattle.gateway.proofs.OwnStep.{undone, not_shown, shown_moves}
use Rattle.gateway.proofs.calls.showing.Goals as goal

-- the clock step in numbers is the endpoint's
step : (v : List ℕ) (s : Stored) (b : Bool)
    → with_bytes v (bare (core_of (bare_of (cond b (ended_stored s) s)))) ≡ with_bytes v (cond b (ended_of (bare_of s)) (bare_of s))
step v s true = refl
step v s false = refl

pub returns-in-Ok : goal.returns-in-Ok
returns-in-Ok c =
    let p = c.args.p in
    let v = c.args.value.now in
    let out = c.args.out.now in
    shown_moves p out c.show.new.out v c.show.result c.shown.result
    (ap is_done (sym c.admitted_entry.ensures ∙ c.in-Ok.is))
    (subst (λ (e : Endpoint). ShowSays e p.call.clock out c.show.new.out c.show.result)
    (ap (λ (x : Core). with_bytes v (bare x)) (c.from-left.ensures ∙ ap (λ (x : Stored). core_of (bare_of x)) c.ticked.ensures)
    ∙ step v p.stored (is_expired (bare_of p.stored) p.call.clock)) c.show.ensures)
    c.shown.ensures

pub returns-in_default : goal.returns-in_default
returns-in_default c =
    let p = c.args.p in
    not_shown p c.args.out.now c.args.out.now c.args.value.now c.refused.result
    (ap is_done (sym c.admitted_entry.ensures) ∙ undone c.admitted_entry.result c.in_default.not-Ok)
    (c.refused.ensures ∙ ap (refused_move p) c.admitted_entry.ensures) refl
