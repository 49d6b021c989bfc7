-- `steps::show::show` meets its contract: too little room, zeros, the value.
use mathlib.Core.Bool.{true, false}
use mathlib.Core.List.{List, ◌++◌}
use mathlib.Core.Path.{◌≡◌, refl, sym, ap, ◌∙◌}
use native.Mathlib.Omega.{arith}
use Prim.Native.Nat.{ℕ, ◌≤◌}
use lib.ListN.{length, replicate, take, drop}
use lib.Seq.{length-take-le}
use Rattle.std.proofs.lemmas.List.{take_min}
use Rattle.std.proofs.Math.Nat.{min-le_right}
use Rattle.steps.proofs.Copies.{zeros}
use Rattle.steps.proofs.Shows.{no_room, shown}
use Rattle.endpoint.specs.Endpoint.{bare}
use Rattle.steps.specs.Calls.{is_fail_safe}
use Rattle.steps.specs.Values.{with_bytes}
use Rattle.steps.proofs.show.show.Goals as goal

pub returns-then-out-lt-LONGEST_FRAME : goal.returns-then-out-lt-LONGEST_FRAME
returns-then-out-lt-LONGEST_FRAME c =
    let a = c.args in
    no_room (with_bytes a.value.now (bare a.e)) a.clock a.out.now _ c.if-out-lt-LONGEST_FRAME.true refl
    c.is_fail_safe-failsafe.ensures c.shown_age-age.ensures

pub returns-then-failsafe : goal.returns-then-failsafe
returns-then-failsafe c =
    let a = c.args in
    let n = c.show_width-width.result in
    let w : n ≤ 100 = c.show_width-width.ensures.1 in
    let room = c.if-out-lt-LONGEST_FRAME.false in
    let l : n ≤ length a.out.now = omega arith in
    let safe : is_fail_safe (bare a.e) ≡ true = sym c.is_fail_safe-failsafe.ensures ∙ c.if-failsafe.true in
    shown (with_bytes a.value.now (bare a.e)) a.clock a.out.now _ (replicate 100 0) room w
    (rw (c.show_width-width.ensures.0, safe)) c.is_fail_safe-failsafe.ensures c.shown_age-age.ensures
    (ap (λ (x : List ℕ). x ++ drop n a.out.now)
    (c.fill.ensures.after (λ y p. p) ∙ ap (λ (m : ℕ). replicate m 0) (length-take-le n a.out.now l) ∙ sym (zeros n 100 w)))

pub returns : goal.returns
returns c =
    let a = c.args in
    let v = a.value.now in
    let n = c.show_width-width.result in
    let held : is_fail_safe (bare a.e) ≡ false = sym c.is_fail_safe-failsafe.ensures ∙ c.if-failsafe.false in
    shown (with_bytes v (bare a.e)) a.clock a.out.now _ v c.if-out-lt-LONGEST_FRAME.false
    (rw c.min-count.ensures (min-le_right n (length v)))
    (ap (λ (m : ℕ). take m v) c.min-count.ensures ∙ take_min n v ∙ rw (c.show_width-width.ensures.0, held))
    c.is_fail_safe-failsafe.ensures c.shown_age-age.ensures
    (ap (λ (x : List ℕ). x ++ drop c.min-count.result a.out.now) c.copy_from_slice.ensures.after)
