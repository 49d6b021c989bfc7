-- Every call on a gateway has its match on the endpoint of the CID.
use mathlib.Core.Path.{◌≡◌, refl, sym, ap, ap₂, subst, ◌∙◌}
use Rattle.std.specs.Prelude.{None, Ok, Option, Some, ℕ}
use Rattle.frame.specs.Reading.{frame_with}
use mathlib.Core.Bool.{Bool, true, false, ◌&&◌, not, cond}
use mathlib.Core.List.{List, [], ◌∷◌, ◌++◌}
use Prim.Native.Nat.{ℕ, suc, ◌<◌}
use native.Mathlib.Omega.{arith}
use lib.Dec.{eqb}
use lib.ListN.{length}
use lib.Seq.{slice}
use borrow.Author.Tests.{eqb-true, eqb-false, eq-eqb, ne_eqb}
use Rattle.frame.specs.declared.Command.TheVariants as K
use Rattle.frame.specs.declared.Fields.{Fields}
use Rattle.frame.specs.Control.{is}
use Rattle.frame.specs.Reading.{reading_of}
use Rattle.endpoint.specs.declared.Settings.{Settings}
use Rattle.endpoint.specs.Endpoint.{Endpoint}
use Rattle.endpoint.specs.Answers.{Answer}
use Rattle.endpoint.specs.Answers.{is_done}
use Rattle.endpoint.specs.Time.{is_expired, held_age, after_tick}
use Rattle.steps.specs.Frames as W
use Rattle.steps.specs.Calls.{Outcome, is_fail_safe, shown_of, shown_age}
use Rattle.steps.specs.Steps as S
use Rattle.steps.specs.Laws.{Carries}
use Rattle.steps.proofs.CallLaws.{step_laws}
use Rattle.steps.proofs.Keeps.{bcase, Kept}
use Rattle.records.specs.Records.{record_of}
use Rattle.gateway.specs.Tables.{Lent, endpoint_at, place_of, is_reading, clock_step, after_clock}
use Rattle.gateway.specs.Calls.{Result, result, acted_of, shown_in, ticks_in}
use Rattle.link.specs.Runs as L
use Rattle.runs.specs.Steps.{Call, act, send, deliver, show, call_in}
use Rattle.runs.specs.Bus.{on_bus, is_refresh_in, is_frame_of, is_refresh_of}
use Rattle.runs.proofs.Tables.{Whole, Like, like_at, like_whole, tick_keeps, like_tick, ticked_at}
use Rattle.runs.proofs.Tables.{placed_there, place_like, place_has}
use Rattle.runs.proofs.Loaded.{Table}
use Rattle.runs.proofs.Idle.{call_expired, call_timely, tick_expired, tick_timely}
use Rattle.runs.proofs.Reaching as A
use Rattle.runs.proofs.Reaching.{and_false}
use Rattle.age.specs.Runs.{lent_to, logged, last_of, may_deliver, given_after, took_by, shows_value}
use Rattle.age.specs.Runs.{settings_for, shown_by}
use Rattle.age.proofs.Logs.{to_log, AllGood, no_more}
use Rattle.age.proofs.Handed.{last_place, may_too}
use Rattle.age.proofs.OneCall.{empty, not_logged, other_frame, own_log, own_good, Matches, not_shown, idle}
use Rattle.age.proofs.OneCall.{clocked, only_clock}

-- zero bytes are no S-Refresh
no_refresh : (cid : ℕ) (s : List ℕ) → eqb (length s) 0 ≡ true → is_refresh_of cid s ≡ false
unfolding reading_of
no_refresh cid [] z = refl
no_refresh cid (b ∷ s) z = let q : suc (length s) ≡ 0 = eqb-true (suc (length s)) 0 z in absurd (omega arith)

-- a show changes the endpoint by the clock step only, and puts nothing on the bus
show_call : (slave : Bool) (m loads : ℕ) (e : Endpoint) (t : ℕ)
    → ((S.call_of e t S.show).endpoint ≡ after_tick e t)
    × (L.logged slave m loads S.show (S.call_of e t S.show).writes ≡ [])
show_call slave m loads e t =
    bcase (is_expired e t)
    (λ x. (
      ap (λ (o : Outcome). o.endpoint) (call_expired e t S.show x) ∙ sym (tick_expired e t x),
      ap (λ (o : Outcome). L.logged slave m loads S.show o.writes) (call_expired e t S.show x),
    ))
    (λ x. (
      ap (λ (o : Outcome). o.endpoint) (call_timely e t S.show x) ∙ sym (tick_timely e t x),
      ap (λ (o : Outcome). L.logged slave m loads S.show o.writes) (call_timely e t S.show x),
    ))

-- a value is shown with its age
flip : (b : Bool) (x : ℕ → L.Show) (age : ℕ)
    → cond {A = List L.Show} (not b) (x (ticks_in (cond b None (Some age))) ∷ []) [] ≡ cond b [] (x age ∷ [])
flip true x age = refl
flip false x age = refl

module _ (cid : ℕ) (slave : Bool) (m loads : ℕ) (given : List L.Grant) (number : ℕ) (d₀ : Lent) (n : ℕ)
    (T : Table number d₀ cid n) (d : Lent) (same : Like d d₀) (t room : ℕ) (reading : is_reading d.gateway t ≡ true)
    (log : List L.Sent) (good : AllGood cid log) (took : ℕ)
  where
    abbrev Match : Call → Type 0
    Match c = Matches cid slave m loads given d n t room log took c

    -- the CID's entry, and its CID
    the_entry : place_of cid d ≡ n
    the_entry = place_like same cid ∙ T.entry

    its_cid : (endpoint_at d n).settings.connection ≡ cid
    its_cid = ap (λ (s : Settings). s.connection) (like_at same n) ∙ T.has

    -- it takes the clock step
    whole : Whole d
    whole = like_whole same T.whole

    counted : n < d.gateway.count
    counted = rw same.counts T.counted

    ticks : endpoint_at (clock_step t d) n ≡ after_tick (endpoint_at d n) t
    ticks = ticked_at d t n whole counted

    -- ---- no connection's
    not_done : (c : Call) (r : Result) → is_done r.answer ≡ false → shows_value cid d c r ≡ false
    not_done (act a k) r h = refl
    not_done (send k value) r h = refl
    not_done (deliver s) r h = refl
    not_done (show k) r h =
        let i = eqb (place_of cid d) k in
        ap (λ (b : Bool). i && (b && not r.failsafe)) h ∙ and_false i

    took_none : (c : Call) → took_by cid (to_log log) c false took ≡ took
    took_none (act a k) = refl
    took_none (send k value) = refl
    took_none (deliver s) = refl
    took_none (show k) = refl

    -- a number is given by a done restart of the entry only
    gives_none : (a : S.Act) (k : ℕ) (done : Bool) → (eqb (place_of cid d) k && done) ≡ false
        → given_after cid slave d loads (act a k) done given ≡ given
    gives_none a k done h =
        ap (λ (b : Bool). cond (slave && b) (L.given_by loads a) [] ++ given) h
        ∙ ap (λ (b : Bool). cond b (L.given_by loads a) [] ++ given) (and_false slave)

    gives_refused : (c : Call) → given_after cid slave d loads c false given ≡ given
    gives_refused (act a k) = gives_none a k false (and_false (eqb (place_of cid d) k))
    gives_refused (send k value) = refl
    gives_refused (deliver s) = refl
    gives_refused (show k) = refl

    nowhere : {c : Call} (a : Answer) (x : Option ℕ) → A.Still c a
        → call_in d t room c ≡ result a x W.nothing (after_clock t d) → Match c
    nowhere {c = c} a x s q =
        only_clock cid slave m loads given d n t room log took c whole counted
        (ap (λ (r : Result). r.lent) q ∙ clocked d t reading whole)
        (ap (λ (r : Result). is_frame_of cid (on_bus r.writes)) q ∙ empty cid)
        (ap (shows_value cid d c) q ∙ silent s)
        (ap (λ (r : Result). took_by cid (to_log log) c (is_done r.answer) took) q ∙ none s)
        (ap (λ (r : Result). given_after cid slave d loads c (is_done r.answer) given) q ∙ gives s)
      where
        silent : {c : Call} → A.Still c a → shows_value cid d c (result a x W.nothing (after_clock t d)) ≡ false
        silent {c = c} (A.refused h) = not_done c _ h
        silent (A.empty z) = refl

        none : {c : Call} → A.Still c a → took_by cid (to_log log) c (is_done a) took ≡ took
        none {c = c} (A.refused h) = ap (λ (b : Bool). took_by cid (to_log log) c b took) h ∙ took_none c
        none (A.empty {s = s} z) =
            ap (λ (b : Bool). cond (is_done a && b) (last_of s (to_log log)) took) (no_refresh cid s z)
            ∙ ap (λ (b : Bool). cond b (last_of s (to_log log)) took) (and_false (is_done a))

        gives : {c : Call} → A.Still c a → given_after cid slave d loads c (is_done a) given ≡ given
        gives {c = c} (A.refused h) =
            ap (λ (b : Bool). given_after cid slave d loads c b given) h ∙ gives_refused c
        gives (A.empty z) = refl

    -- ---- a show
    shows_other : (k : ℕ) → call_in d t room (show k) ≡ shown_in (after_tick (endpoint_at d k) t) t k d
        → eqb n k ≡ false → Match (show k)
    shows_other k q b =
        let r = call_in d t room (show k) in
        only_clock cid slave m loads given d n t room log took (show k) whole counted (ap (λ (r : Result). r.lent) q)
        (ap (λ (r : Result). is_frame_of cid (on_bus r.writes)) q ∙ empty cid)
        (ap (λ (i : Bool). i && (is_done r.answer && not r.failsafe)) (ap (λ (i : ℕ). eqb i k) the_entry ∙ b))
        refl refl

    -- the settings that it is shown with
    its_settings : settings_for cid d ≡ (after_tick (endpoint_at d n) t).settings
    its_settings =
        ap (λ (i : ℕ). (endpoint_at d i).settings) the_entry
        ∙ sym (ap (λ (s : Kept). s.0) (tick_keeps (endpoint_at d n) t))

    shows_own : call_in d t room (show n) ≡ shown_in (after_tick (endpoint_at d n) t) t n d → Match (show n)
    unfolding to_log
    shows_own q =
        let e = endpoint_at d n in
        let x = after_tick e t in
        let y : Settings → ℕ → L.Show = λ s age. L.shown slave s m (shown_of x) age took (length log) in
        let c = show_call slave m loads e t in
        let v : shows_value cid d (show n) (shown_in x t n d) ≡ not (is_fail_safe x) =
        ap (λ (b : Bool). b && (true && not (is_fail_safe x))) (eq-eqb (place_of cid d) n the_entry) in
        record {
          by = S.show;
          endpoint = ap (λ (r : Result). endpoint_at r.lent n) q ∙ ticks ∙ sym c.0;
          logs = ap (λ (r : Result). logged cid slave m loads (show n) r.writes) q
              ∙ not_logged cid slave m loads (show n) (W.value (shown_of x)) (empty cid) ∙ sym (ap to_log c.1);
          good = subst (AllGood cid) (sym c.1) no_more;
          shows = ap (shown_by cid slave d m took (length log) (show n)) q
              ∙ ap₂ (λ (b : Bool) (s : Settings). cond {A = List L.Show} b (y s (ticks_in (shown_age x t)) ∷ []) [])
              v its_settings
              ∙ flip (is_fail_safe x) (y x.settings) (held_age x t)
              ∙ sym (ap (L.shown_by slave m t took (length log) S.show) c.0);
          takes = refl;
          gives = refl;
          may = refl;
          like = subst (λ (r : Result). Like r.lent d) (sym q) (like_tick d t);
        }

    -- ---- a frame for the connection at k
    module _ (s : List ℕ) (f : Fields) (from to k : ℕ) (is_frame_law : reading_of s ≡ Ok (frame_with f from to))
        (h : place_of f.connection d ≡ k) where
      -- the entry's CID is the frame's
      its_frame : k ≡ n → f.connection ≡ cid
      its_frame q =
          sym (place_has f.connection d whole (rw (h, q) counted))
          ∙ ap (λ (i : ℕ). (endpoint_at d i).settings.connection) (h ∙ q) ∙ its_cid

      no_frame : (k ≡ n → ⊥) → f.connection ≡ cid → ⊥
      no_frame ne q = ne (sym h ∙ ap (λ (c : ℕ). place_of c d) q ∙ the_entry)

      refreshes : is_refresh_of cid s ≡ (eqb f.connection cid && is f.command K.Refresh)
      refreshes = ap (is_refresh_in cid) is_frame_law

      -- of another connection it is no S-Refresh of the CID
      takes_none : (k ≡ n → ⊥) → (b : Bool) → took_by cid (to_log log) (deliver s) b took ≡ took
      takes_none ne b =
          ap (λ (i : Bool). cond (b && i) (last_of s (to_log log)) took)
          (refreshes ∙ ap (λ (i : Bool). i && is f.command K.Refresh) (ne_eqb f.connection cid (no_frame ne)))
          ∙ ap (λ (i : Bool). cond i (last_of s (to_log log)) took) (and_false b)

      -- of this one it was written
      takes_too : k ≡ n → may_deliver cid given (to_log log) (deliver s) ≡ true → (a : Answer)
          → took_by cid (to_log log) (deliver s) (is_done a) took ≡ L.took_by log (S.deliver f (slice from to s)) a took
      takes_too q may a =
          ap (λ (i : Bool). cond (is_done a && i) (last_of s (to_log log)) took)
          (refreshes ∙ ap (λ (i : Bool). i && is f.command K.Refresh) (eq-eqb f.connection cid (its_frame q)))
          ∙ ap (λ (i : ℕ). cond (is_done a && is f.command K.Refresh) i took)
          (last_place cid given log good s f from to is_frame_law (its_frame q) may)

    -- ---- a call for the connection at k, on the gateway and on the endpoint
    lent : {c : Call} {by : S.Call} {k : ℕ} → A.For d c by k → lent_to c ≡ L.lent_to by
    lent (A.acts a k) = refl
    lent (A.sends k value) = refl
    lent (A.delivers s f from to k i h) = refl

    no_show_law : {c : Call} {by : S.Call} {k : ℕ} → A.For d c by k → (r : Result) → shows_value cid d c r ≡ false
    no_show_law (A.acts a k) r = refl
    no_show_law (A.sends k value) r = refl
    no_show_law (A.delivers s f from to k i h) r = refl

    no_show_by : {c : Call} {by : S.Call} {k : ℕ} → A.For d c by k → (x : Endpoint)
        → L.shown_by slave m t took (length log) by x ≡ []
    no_show_by (A.acts a k) x = refl
    no_show_by (A.sends k value) x = refl
    no_show_by (A.delivers s f from to k i h) x = refl

    took_other : {c : Call} {by : S.Call} {k : ℕ} → A.For d c by k → (k ≡ n → ⊥) → (b : Bool)
        → took_by cid (to_log log) c b took ≡ took
    took_other (A.acts a k) ne b = refl
    took_other (A.sends k value) ne b = refl
    took_other (A.delivers s f from to k i h) ne b = takes_none s f from to k i h ne b

    took_own : {c : Call} {by : S.Call} {k : ℕ} → A.For d c by k → k ≡ n → may_deliver cid given (to_log log) c ≡ true
        → (a : Answer) → took_by cid (to_log log) c (is_done a) took ≡ L.took_by log by a took
    took_own (A.acts a k) q may b = refl
    took_own (A.sends k value) q may b = refl
    took_own (A.delivers s f from to k i h) q may b = takes_too s f from to k i h q may b

    gives_other : {c : Call} {by : S.Call} {k : ℕ} → A.For d c by k → (k ≡ n → ⊥) → (b : Bool)
        → given_after cid slave d loads c b given ≡ given
    gives_other (A.acts a k) ne b =
        gives_none a k b (ap (λ (i : Bool). i && b) (ne_eqb (place_of cid d) k (λ q. ne (sym q ∙ the_entry))))
    gives_other (A.sends k value) ne b = refl
    gives_other (A.delivers s f from to k i h) ne b = refl

    gives_own : {c : Call} {by : S.Call} {k : ℕ} → A.For d c by k → k ≡ n → (a : Answer)
        → given_after cid slave d loads c (is_done a) given ≡ L.given_after slave loads by a given
    gives_own (A.acts a k) q b =
        ap (λ (i : Bool). cond (slave && (i && is_done b)) (L.given_by loads a) [] ++ given)
        (eq-eqb (place_of cid d) k (the_entry ∙ sym q))
    gives_own (A.sends k value) q b = refl
    gives_own (A.delivers s f from to k i h) q b = refl

    may_own : {c : Call} {by : S.Call} {k : ℕ} → A.For d c by k → k ≡ n → may_deliver cid given (to_log log) c ≡ true
        → L.may_deliver given log by ≡ true
    may_own (A.acts a k) q may = refl
    may_own (A.sends k value) q may = refl
    may_own (A.delivers s f from to k i h) q may =
        may_too cid given log good s f from to i (its_frame s f from to k i h q) may

    module _ (c : Call) (by : S.Call) (k : ℕ) (names : A.For d c by k)
        (is : call_in d t room c ≡ acted_of (A.does d t by k) t k d) (live : A.Live d t k) where
      abbrev e : Endpoint
      e = endpoint_at d k

      abbrev o : Outcome
      o = A.does d t by k

      -- what it writes carries the connection's CID
      carries : Carries e o.writes
      carries = step_laws.carries e t by

      stays : Like (call_in d t room c).lent d
      stays = subst (λ (r : Result). Like r.lent d) (sym is) (A.step_like d t by k)

      -- of another connection
      steps_other : (k ≡ n → ⊥) → Match c
      steps_other ne =
          let there : k < d₀.gateway.count = rw same.counts at live.counted in
          idle cid slave m loads given d n t room log took c
          (ap (λ (r : Result). endpoint_at r.lent n) is
          ∙ placed_there (clock_step t d) k n (record_of o.endpoint) (λ q. ne (sym q)) ∙ ticks)
          (ap (λ (r : Result). is_frame_of cid (on_bus r.writes)) is
          ∙ other_frame cid e o.writes carries
          (λ q. T.others k there ne
          (ap (λ (s : Settings). s.connection) (sym (like_at same k)) ∙ q)))
          (no_show_law names (call_in d t room c)) (took_other names ne (is_done (call_in d t room c).answer))
          (gives_other names ne (is_done (call_in d t room c).answer)) stays

      -- of this one
      steps_own : k ≡ n → may_deliver cid given (to_log log) c ≡ true → Match c
      steps_own k≡n may =
          let p : S.call_of e t by ≡ o = call_timely e t by live.timely in
          let there : endpoint_at d n ≡ e = ap (endpoint_at d) (sym k≡n) in
          let has : e.settings.connection ≡ cid =
          ap (λ (i : ℕ). (endpoint_at d i).settings.connection) k≡n ∙ its_cid in
          let does : S.call_of (endpoint_at d n) t by ≡ o = ap (λ (x : Endpoint). S.call_of x t by) there ∙ p in
          record {
            by = by;
            endpoint = ap (λ (r : Result). endpoint_at r.lent n) is
                ∙ ap (endpoint_at (acted_of o t k d).lent) (sym k≡n)
                ∙ A.step_at d t by k live ∙ sym (ap (λ (y : Outcome). y.endpoint) does);
            logs = ap (λ (r : Result). logged cid slave m loads c r.writes) is
                ∙ own_log cid slave m loads c by e o.writes carries has (lent names)
                ∙ sym (ap (λ (y : Outcome). to_log (L.logged slave m loads by y.writes)) does);
            good = subst (λ (y : Outcome). AllGood cid (L.logged slave m loads by y.writes)) (sym does)
                (own_good cid slave m loads by e o.writes carries has);
            shows = not_shown cid slave m loads given d n t room log took c (call_in d t room c)
                (no_show_law names (call_in d t room c)) ∙ sym (no_show_by names _);
            takes = ap (λ (r : Result). took_by cid (to_log log) c (is_done r.answer) took) is
                ∙ took_own names k≡n may o.answer
                ∙ sym (ap (λ (y : Outcome). L.took_by log by y.answer took) does);
            gives = ap (λ (r : Result). given_after cid slave d loads c (is_done r.answer) given) is
                ∙ gives_own names k≡n o.answer
                ∙ sym (ap (λ (y : Outcome). L.given_after slave loads by y.answer given) does);
            may = may_own names k≡n may;
            like = stays;
          }

    -- ---- every call
    pub matches : {c : Call} → A.Reach d t room c → may_deliver cid given (to_log log) c ≡ true → Match c
    matches (A.nowhere a x s q) may = nowhere a x s q
    matches (A.showing k q) may =
        bcase (eqb n k)
        (λ b. let i = eqb-true n k b in
        subst (λ (j : ℕ). Match (show j)) i
        (shows_own (subst (λ (j : ℕ). call_in d t room (show j)
        ≡ shown_in (after_tick (endpoint_at d j) t) t j d) (sym i) q)))
        (shows_other k q)
    matches {c = c} (A.stepping by k f q l) may =
        bcase (eqb k n) (λ b. steps_own c by k f q l (eqb-true k n b) may)
        (λ b. steps_other c by k f q l (eqb-false k n b))
