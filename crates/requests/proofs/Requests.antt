-- The count of setup requests, over every list of calls on a gateway.
use mathlib.Core.Path.{◌≡◌, refl, sym, ap, subst, ◌∙◌}
use mathlib.Core.Bool.{Bool, true, false, ◌&&◌, cond}
use mathlib.Core.List.{List, [], ◌∷◌}
use Prim.Native.Nat.{ℕ, suc, ◌+◌, ◌≤◌, ◌<◌}
use native.Mathlib.Nat.{not-suc-le-zero}
use native.Mathlib.Omega.{arith}
use lib.Dec.{eqb, lit≤}
use borrow.Author.Tests.{ltb-true, eqb-true, eqb-false}
use Rattle.frame.specs.Reading.{reading_of}
use Rattle.frame.proofs.ReadBack.{round_trip}
use Rattle.endpoint.specs.Endpoint.{Endpoint}
use Rattle.endpoint.specs.Answers.{Answer}
use Rattle.endpoint.specs.Answers.{is_done}
use Rattle.endpoint.specs.declared.State.{State}
use Rattle.endpoint.specs.Table.{is_setup}
use Rattle.endpoint.specs.Time.{after_tick}
use Rattle.endpoint.specs.Due.{request_limit}
use Rattle.steps.specs.Frames.{Written, nothing, frame, value}
use Rattle.steps.specs.Calls.{Outcome}
use Rattle.steps.specs.Steps as S
use Rattle.steps.specs.Laws.{Carries, requests_in, setup_requests_in, is_start}
use Rattle.steps.proofs.CallLaws.{step_laws}
use Rattle.steps.proofs.Keeps.{bcase, Kept}
use Rattle.records.specs.Records.{record_of}
use Rattle.gateway.specs.Tables.{Lent, lent, endpoint_at, is_timely, clock_step, after_clock}
use Rattle.gateway.specs.Loading.{loaded_with}
use Rattle.gateway.specs.Calls.{Result, result, acted_of, shown_in}
use Rattle.runs.specs.Steps.{Call, show, Step, load, call, call_in, is_at}
use Rattle.runs.specs.Bus.{on_bus}
use Rattle.runs.proofs.Tables.{Whole, like_whole, tick_keeps, like_tick, ticked_at, placed_there}
use Rattle.runs.proofs.Loaded.{none_whole, loaded_whole, loaded_none}
use Rattle.runs.proofs.Reaching as A
use Rattle.runs.proofs.Reaching.{and_false}
use Rattle.requests.specs.Requests.{is_request_in, is_start_of, count_after, Watched, watched, after_step, after_steps}
use Rattle.requests.specs.Requests.{RequestCount}

-- what is written reads back, and counts as what it is
count_back : (e : Endpoint) (w : Written) → Carries e w
    → cond (is_request_in (reading_of (on_bus w))) 1 0 ≡ requests_in w
unfolding reading_of
count_back e nothing c = refl
count_back e (frame f body) c =
    ap (λ (b : Bool). cond b 1 0) (ap is_request_in (round_trip.there f body c.0).0)
count_back e (value bytes) c = refl

-- a request counts where it is written in setup
setup_back : (s : Bool) (b : Bool) (m : ℕ) → cond b 1 0 ≡ m → cond (s && b) 1 0 ≡ cond s m 0
setup_back true b m h = h
setup_back false b m h = refl

-- no bytes are no request
empty : is_request_in (reading_of []) ≡ false
unfolding reading_of
empty = refl

and_true : (b : Bool) → (b && true) ≡ b
and_true true = refl
and_true false = refl

-- one more or none
added : (b : Bool) (count m : ℕ) → cond b 1 0 ≡ m → cond b (suc count) count ≡ count + m
added true count m h = omega arith
added false count m h = omega arith

-- the slice is whole, and the entry n keeps this count
record Held (n : ℕ) (d : Lent) (count : ℕ) : Type 0 where
  whole : Whole d
  same : n < d.gateway.count → (endpoint_at d n).setup.requests ≡ count
  most : count ≤ request_limit

-- only a start is a start, on the endpoint and on the gateway
starts : (n : ℕ) {d : Lent} {c : Call} {by : S.Call} {k : ℕ} → A.For d c by k
    → is_start_of n c ≡ (is_start by && eqb k n)
starts n (A.acts a k) = refl
starts n (A.sends k v) = refl
starts n (A.delivers s f from to k i h) = refl

module _ (n : ℕ) (d : Lent) (count : ℕ) (H : Held n d count) (t : ℕ) where
  ticked : Held n (clock_step t d) count
  ticked = record {
    whole = like_whole (like_tick d t) H.whole;
    same = λ h. let k : n < d.gateway.count = rw (like_tick d t).counts at h in
        ap (λ (e : Endpoint). e.setup.requests) (ticked_at d t n H.whole k)
        ∙ ap (λ (s : Kept). s.3) (tick_keeps (endpoint_at d n) t) ∙ H.same k;
    most = H.most;
  }

  clocked : Held n (after_clock t d) count
  clocked = bcase (is_timely d t) (λ h. rw h ticked) (λ h. rw h H)

  module _ (room : ℕ) where
    abbrev After : Call → Type 0
    After c = Held n (call_in d t room c).lent (count_after n d (call t room c) (call_in d t room c) count)

    -- what holds of what the call comes to holds of the call
    comes : (c : Call) (r : Result) → call_in d t room c ≡ r
        → Held n r.lent (count_after n d (call t room c) r count) → After c
    comes c r q h =
        subst (λ (x : Result). Held n x.lent (count_after n d (call t room c) x count)) (sym q) h

    -- the clock step at most: no start is done, nothing is put on the bus
    idle : (c : Call) (r : Result) → call_in d t room c ≡ r → Held n r.lent count
        → (is_start_of n c && is_done r.answer) ≡ false → on_bus r.writes ≡ [] → After c
    idle c r q k s w =
        let none : count_after n d (call t room c) r count ≡ count =
        rw (s, w, empty, and_false (is_setup (endpoint_at d n).state), and_false (is_at r.entry n)) in
        comes c r q (subst (Held n r.lent) (sym none) k)

    -- ---- a connection's step
    module _ (c : Call) (by : S.Call) (k : ℕ) (names : A.For d c by k)
        (is : call_in d t room c ≡ acted_of (A.does d t by k) t k d) (live : A.Live d t k) where
      abbrev e : Endpoint
      e = endpoint_at d k

      abbrev o : Outcome
      o = A.does d t by k

      still_whole : Whole (acted_of o t k d).lent
      still_whole = like_whole (A.step_like d t by k) H.whole

      -- of another connection
      other : eqb k n ≡ false → After c
      other b =
          let q : count_after n d (call t room c) (acted_of o t k d) count ≡ count =
          rw (starts n names, b, and_false (is_start by)) in
          comes c (acted_of o t k d) is (subst (Held n (acted_of o t k d).lent) (sym q) (record {
            whole = still_whole;
            same = λ h. ap (λ (x : Endpoint). x.setup.requests)
                (placed_there (clock_step t d) k n (record_of o.endpoint) (λ i. eqb-false k n b (sym i)))
                ∙ ticked.same h;
            most = H.most;
          }))

      -- of this one
      own : eqb k n ≡ true → After c
      own b =
          let i = eqb-true k n b in
          let kept : e.setup.requests ≡ count =
          ap (λ (j : ℕ). (endpoint_at d j).setup.requests) i ∙ H.same (rw i at live.counted) in
          let wrote = is_request_in (reading_of (on_bus o.writes)) in
          let state : (endpoint_at d n).state ≡ e.state =
          ap (λ (j : ℕ). (endpoint_at d j).state) (sym i) in
          let more = added (is_setup (endpoint_at d n).state && wrote) count (setup_requests_in e o.writes)
          (ap (λ (s : State). cond (is_setup s && wrote) 1 0) state
          ∙ setup_back (is_setup e.state) wrote (requests_in o.writes)
          (count_back e o.writes (step_laws.carries e t by))) in
          let q : count_after n d (call t room c) (acted_of o t k d) count ≡ o.endpoint.setup.requests =
          rw (starts n names, b, and_true (is_start by), more, ← kept) (sym (step_laws.counts e t by)) in
          comes c (acted_of o t k d) is (subst (Held n (acted_of o t k d).lent) (sym q) (record {
            whole = still_whole;
            same = λ h. ap (λ (j : ℕ). (endpoint_at (acted_of o t k d).lent j).setup.requests) (sym i)
                ∙ ap (λ (x : Endpoint). x.setup.requests) (A.step_at d t by k live);
            most = step_laws.limited e t by (subst (λ (m : ℕ). m ≤ request_limit) (sym kept) H.most);
          }))

    -- ---- every call
    not_started : {c : Call} {a : Answer} → A.Still c a → (is_start_of n c && is_done a) ≡ false
    not_started {c = c} (A.refused h) = ap (λ (b : Bool). is_start_of n c && b) h ∙ and_false (is_start_of n c)
    not_started (A.empty z) = refl

    called : {c : Call} → A.Reach d t room c → After c
    called {c = c} (A.nowhere a x s q) =
        idle c (result a x nothing (after_clock t d)) q clocked (not_started s) refl
    called (A.showing k q) =
        idle (show k) (shown_in (after_tick (endpoint_at d k) t) t k d) q ticked refl refl
    called {c = c} (A.stepping by k f q l) = bcase (eqb k n) (own c by k f q l) (other c by k f q l)

-- ---- every list
step : (n : ℕ) (x : Watched) (s : Step) → Held n x.lent x.count
    → Held n (after_step n x s).lent (after_step n x s).count
step n x (load number ws rs) k =
    record { whole = loaded_whole number ws rs; same = loaded_none number ws rs n; most = lit≤ tt }
step n x (call t room c) k = called n x.lent x.count k t room (A.reach x.lent t room c)

steps : (n : ℕ) (l : List Step) (x : Watched) → Held n x.lent x.count
    → Held n (after_steps n x l).lent (after_steps n x l).count
unfolding after_steps
steps n [] x k = k
steps n (s ∷ l) x k = steps n l (after_step n x s) (step n x s k)

pub request_count : RequestCount
request_count n rs l i =
    let h = steps n l (watched (lent (loaded_with 0) rs) 0)
    (record { whole = none_whole rs; same = λ k. absurd (not-suc-le-zero k); most = lit≤ tt }) in
    (h.same (ltb-true n _ i), h.most)
