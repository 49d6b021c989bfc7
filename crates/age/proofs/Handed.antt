-- A frame of the CID that is handed over: it was written, and its last place in the log is that of its fields and body.
use mathlib.Core.Path.{◌≡◌, sym, ap, ap₂, ◌∙◌}
use Rattle.std.specs.Prelude.{Ok}
use Rattle.frame.specs.Reading.{frame_with}
use mathlib.Core.Bool.{Bool, true, ◌&&◌, ◌||◌, not}
use mathlib.Core.List.{List}
use Prim.Native.Nat.{ℕ, ◌-◌, ◌≤◌}
use lib.Dec.{leb}
use lib.Seq.{slice}
use borrow.Author.Tests.{leb-true, eq-eqb}
use mathlib.Mathlib.Data.Bool.Basic.{and_elim_left as and_left, and_elim_right as and_right, and_intro as both}
use Rattle.frame.specs.declared.Fields.{Fields}
use Rattle.frame.specs.Reading.{reading_of}
use Rattle.steps.specs.Steps as S
use Rattle.link.specs.Runs as L
use Rattle.runs.specs.Steps.{deliver}
use Rattle.runs.specs.Bus.{is_of, session_of, is_frame_of}
use Rattle.age.specs.Runs.{sent_at, last_of, travels, may_deliver}
use Rattle.age.proofs.Logs.{to_log, when_at, AllGood, last_of_law, WritingOf, writing_of}

module _ (cid : ℕ) (given : List L.Grant) (log : List L.Sent) (good : AllGood cid log) (s : List ℕ) (f : Fields)
    (from to : ℕ) (is_frame_law : reading_of s ≡ Ok (frame_with f from to)) (has : f.connection ≡ cid)
    (may : may_deliver cid given (to_log log) (deliver s) ≡ true) where
  may_own : (leb 1 (last_of s (to_log log)) && travels given s (to_log log)) ≡ true
  may_own =
      let own : is_frame_of cid s ≡ true = ap (is_of cid) is_frame_law ∙ eq-eqb f.connection cid has in
      ap (λ (b : Bool). not b || (leb 1 (last_of s (to_log log)) && travels given s (to_log log))) (sym own) ∙ may

  was_written : 1 ≤ last_of s (to_log log)
  was_written = leb-true 1 (last_of s (to_log log)) (and_left (leb 1 (last_of s (to_log log))) _ may_own)

  writing : WritingOf s f (slice from to s)
  writing = writing_of cid s log good was_written f from to is_frame_law

  pub last_place : last_of s (to_log log) ≡ L.last_of f (slice from to s) log
  last_place = ap (λ (x : List ℕ). last_of x (to_log log)) (sym writing.is)
      ∙ last_of_law cid f (slice from to s) writing.readable log good

  -- its last writing was at the same moment, and after as many loadings
  pub last_moment : (sent_at (to_log log) (last_of s (to_log log) - 1)).moment
      ≡ (L.sent_at log (L.last_of f (slice from to s) log - 1)).moment
  last_moment = (when_at log (last_of s (to_log log) - 1)).0 ∙ ap (λ (i : ℕ). (L.sent_at log (i - 1)).moment) last_place

  last_loads : (sent_at (to_log log) (last_of s (to_log log) - 1)).loads
      ≡ (L.sent_at log (L.last_of f (slice from to s) log - 1)).loads
  last_loads = (when_at log (last_of s (to_log log) - 1)).1 ∙ ap (λ (i : ℕ). (L.sent_at log (i - 1)).loads) last_place

  -- so it may be handed over as fields and body
  pub may_too : L.may_deliver given log (S.deliver f (slice from to s)) ≡ true
  may_too =
      both (ap (leb 1) (sym last_place) ∙ and_left (leb 1 (last_of s (to_log log))) _ may_own)
      (sym (ap₂ (L.may_travel given) (ap session_of is_frame_law) last_loads)
      ∙ and_right (leb 1 (last_of s (to_log log))) _ may_own)
