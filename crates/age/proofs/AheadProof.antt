-- A frame that is refused as too far ahead, number 14, is very old: on the gateways as on the endpoints.
use mathlib.Core.Path.{◌≡◌, refl, sym, ap, subst, ◌∙◌}
use Rattle.std.specs.Prelude.{Err, Ok}
use Rattle.frame.specs.Reading.{Reading}
use Rattle.frame.specs.Reading.{frame_with}
use mathlib.Core.Bool.{Bool, true, false, cond, false≢true}
use mathlib.Core.List.{List, [], ◌∷◌}
use Prim.Native.Nat.{ℕ, suc, ◌+◌, ◌-◌, ◌^◌, ◌<◌}
use native.Mathlib.Omega.{arith}
use lib.Dec.{eqb}
use lib.ListN.{length}
use lib.Seq.{slice}
use borrow.Author.Tests.{eqb-true, eq-eqb, ne_eqb}
use Rattle.frame.specs.declared.Fields.{Fields}
use Rattle.frame.specs.Reading.{reading_of}
use Rattle.endpoint.specs.Endpoint.{Endpoint}
use Rattle.endpoint.specs.declared.Reason.TheVariants as R
use Rattle.endpoint.specs.declared.Refusal.TheVariants.{Dropped, Ended}
use Rattle.endpoint.specs.Answers.{is_done, number_of}
use Rattle.endpoint.specs.Time.{is_expired}
use Rattle.steps.specs.Calls.{Outcome}
use Rattle.steps.specs.Steps as S
use Rattle.steps.proofs.Dispatch.{cond_true, cond_false}
use Rattle.steps.proofs.Keeps.{bcase}
use Rattle.gateway.specs.Tables.{Lent, endpoint_at, is_entry, is_shorter, place_of, is_reading}
use Rattle.gateway.specs.Calls.{Result, admit, admit_entry, refused_of, acted_of, before_entry, is_short, by_reading}
use Rattle.gateway.specs.Calls.{empty_cycle}
use Rattle.gateway.proofs.Lands.{tells}
use Rattle.link.specs.Clocks.{moment_of}
use Rattle.link.specs.Runs as L
use Rattle.link.proofs.AheadProof as P
use Rattle.runs.specs.Steps.{deliver, call_in}
use Rattle.runs.specs.Bus.{is_of, is_frame_of}
use Rattle.runs.proofs.Tables.{place_like}
use Rattle.runs.proofs.Idle.{call_timely}
use Rattle.age.specs.Runs.{Sent, sent_at, last_of, called, Run, lent_at}
use Rattle.age.specs.Demand.{settings_in, run_of, NeverAhead}
use Rattle.age.proofs.Handed.{last_moment, may_too}
use Rattle.age.proofs.Lift.{link_of, end_of, may_deliver_law, still, counts, allowed_first, first_link, paired, lifted}

-- ---- a frame that is handed over
record FrameOf (cid : ℕ) (s : List ℕ) : Type 0 where
  fields : Fields
  from : ℕ
  to : ℕ
  is : reading_of s ≡ Ok (frame_with fields from to)
  has : fields.connection ≡ cid

frame_in : (cid : ℕ) (s : List ℕ) → is_frame_of cid s ≡ true → FrameOf cid s
frame_in cid s = go (reading_of s) refl
  where
    go : (r : Reading) → reading_of s ≡ r → is_of cid r ≡ true → FrameOf cid s
    go (Ok read) q h =
        record { fields = read.fields; from = read.start; to = read.end; is = q; has = eqb-true read.fields.connection cid h }
    go (Err fault) q h = absurd (false≢true h)

-- it is not of zero bytes
arrives : (s : List ℕ) (f : Fields) (from to : ℕ) → reading_of s ≡ Ok (frame_with f from to) → eqb (length s) 0 ≡ false
unfolding reading_of
arrives [] f from to h =
    absurd (false≢true (ap (is_of f.connection) h ∙ eq-eqb f.connection f.connection refl))
arrives (b ∷ s) f from to h = ne_eqb (suc (length s)) 0 (λ q. omega arith)

-- number 14 is none of a gateway's own for a frame, 1, 2, 8 and 9
not_before : (reading shorter short within over : Bool)
    → number_of (admit reading shorter short (admit_entry within R.Unknown (cond over (Err (Ended R.Expired)) (Ok tt)))) ≡ 14 → ⊥
not_before false shorter short within over h = omega arith
not_before true true short within over h = omega arith
not_before true false true within over h = omega arith
not_before true false false false over h = omega arith
not_before true false false true true h = omega arith
not_before true false false true false h = omega arith

-- so it is the connection's
module _ (d : Lent) (t room : ℕ) (s : List ℕ) (f : Fields) (from to : ℕ) (is_frame_law : reading_of s ≡ Ok (frame_with f from to))
  where
    abbrev k : ℕ
    k = place_of f.connection d

    abbrev by : S.Call
    by = S.deliver f (slice from to s)

    record Refuses : Type 0 where
      reading : is_reading d.gateway t ≡ true
      answer : (S.call_of (endpoint_at d k) t by).answer ≡ Err (Dropped R.Ahead)

    refuses : (call_in d t room (deliver s)).answer ≡ Err (Dropped R.Ahead) → Refuses
    refuses h =
        let e = endpoint_at d k in
        let a = before_entry R.Unknown d t (is_short room) k in
        let r = acted_of (S.step_of e t by) t k d in
        let x = is_expired e t in
        let p : call_in d t room (deliver s) ≡ cond (is_done a) r (refused_of a t k d) =
        cond_false (eqb (length s) 0) (empty_cycle d t (is_short room)) (by_reading d t room s (reading_of s))
        (arrives s f from to is_frame_law)
        ∙ ap (by_reading d t room s) is_frame_law in
        bcase (is_done a)
        (λ q. let told = tells (is_reading d.gateway t) (is_shorter d) (is_short room) (is_entry d k) x R.Unknown q in
        record {
          reading = told.reading;
          answer = ap (λ (o : Outcome). o.answer) (call_timely e t by told.timely)
              ∙ sym (ap (λ (y : Result). y.answer) (p ∙ cond_true (is_done a) r (refused_of a t k d) q)) ∙ h;
        })
        (λ q. absurd (not_before (is_reading d.gateway t) (is_shorter d) (is_short room) (is_entry d k) x
        (ap number_of (sym (ap (λ (y : Result). y.answer) (p ∙ cond_false (is_done a) r (refused_of a t k d) q)) ∙ h))))

pub never_ahead : NeverAhead
never_ahead nm ns wm ws rm rs cid hm hs shift vs slave t other room s h own a =
    let l = run_of nm wm rm ns ws rs cid shift vs in
    let lift = lifted nm ns wm ws rm rs cid hm hs shift vs
    (allowed_first cid (first_link nm ns wm ws rm rs cid hm hs shift) l (called slave t other room (deliver s)) h) in
    -- the run of the two endpoints that goes along, and the frame as fields and body
    let sim = lift.sim in
    let x = L.after_all (first_link nm ns wm ws rm rs cid hm hs shift) lift.events in
    let F = frame_in cid s own in
    let f = F.fields in
    let body = slice F.from F.to s in
    let d = lent_at l slave in
    let side = sim.sides slave in
    let r = refuses d t room s f F.from F.to F.is a in
    let g = ap (λ (y : Run). y.allowed) (sym (counts cid l slave t other room (deliver s) r.reading)) ∙ h in
    let may = may_deliver_law cid l x sim slave t other room (deliver s) r.reading g in
    let link = link_of l sim.place sim.log in
    -- the endpoint there is the entry's, and the frame was last written at the same moment
    let there : L.endpoint_at x slave ≡ endpoint_at d (place_of f.connection d) =
    ap (λ (y : L.Link). L.endpoint_at y slave) sim.is ∙ end_of l sim.place sim.log slave
    ∙ ap (endpoint_at d)
    (sym (ap (λ (c : ℕ). place_of c d) F.has ∙ place_like side.like cid ∙ side.table.entry)) in
    let moment : (L.sent_at x.log (L.last_of f body x.log - 1)).moment
    ≡ (sent_at l.log (last_of s l.log - 1)).moment =
    ap (λ (y : L.Link). (L.sent_at y.log (L.last_of f body y.log - 1)).moment) sim.is
    ∙ sym (last_moment cid l.given sim.log sim.good s f F.from F.to F.is F.has may)
    ∙ ap (λ (z : List Sent). (sent_at z (last_of s z - 1)).moment) (sym sim.logs) in
    subst (λ (n : ℕ). n + 2 ^ 46 < moment_of shift slave t other) moment
    (P.never_ahead (settings_in hm) (settings_in hs) ns shift lift.events slave t other f body
    (paired nm ns wm ws rm rs cid hm hs shift)
    (ap (λ (y : L.Link). (L.after_event y (L.called slave t other (S.deliver f body))).allowed) sim.is
    ∙ still cid l x sim slave t other room (deliver s) r.reading g (S.deliver f body)
    (S.call_of (L.endpoint_at link slave) t (S.deliver f body))
    (may_too cid l.given sim.log sim.good s f F.from F.to F.is F.has may))
    (ap (λ (e : Endpoint). (S.call_of e t (S.deliver f body)).answer) there ∙ r.answer))
