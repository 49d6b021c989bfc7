-- One call on a gateway, seen from one CID's entry: some call on that endpoint does the same to it, and to what is
-- written, shown and given of the CID.
use mathlib.Core.Path.{◌≡◌, refl, sym, ap, subst, ◌∙◌}
use Rattle.std.specs.Prelude.{Option}
use mathlib.Core.Bool.{Bool, true, false, ◌&&◌, cond}
use mathlib.Core.List.{List, [], ◌∷◌, ◌++◌}
use Prim.Native.Nat.{ℕ, ◌<◌}
use lib.ListN.{length}
use borrow.Author.Tests.{eq-eqb, ne_eqb}
use Rattle.frame.specs.Reading.{reading_of}
use Rattle.frame.specs.Writing.{frame_bytes}
use Rattle.endpoint.specs.Endpoint.{Endpoint}
use Rattle.endpoint.specs.Answers.{is_done}
use Rattle.endpoint.specs.Time.{after_tick}
use Rattle.steps.specs.Frames.{Written, nothing, frame, value, bytes_of}
use Rattle.steps.specs.Calls.{Outcome}
use Rattle.steps.specs.Steps as S
use Rattle.steps.specs.Laws.{Carries}
use Rattle.steps.proofs.Dispatch.{cond_true, cond_false}
use Rattle.gateway.specs.Tables.{Lent, endpoint_at, is_reading, clock_step, after_clock}
use Rattle.gateway.specs.Calls.{Result, ticks_in}
use Rattle.link.specs.Runs as L
use Rattle.runs.specs.Steps.{Call, call_in}
use Rattle.runs.specs.Bus.{on_bus, is_frame_of}
use Rattle.runs.proofs.Tables.{Whole, Like, like_tick, ticked_at}
use Rattle.runs.proofs.Idle.{Idle, idle_at}
use Rattle.runs.proofs.Reaching.{and_false}
use Rattle.age.specs.Runs.{sent, lent_to, logged, given_after, took_by, shows_value, settings_for, shown_by}
use Rattle.age.proofs.Logs.{frame_of_law, to_sent, to_log, AllGood, no_more, and_more}

-- ---- the frame that a call wrote
pub empty : (cid : ℕ) → is_frame_of cid [] ≡ false
unfolding reading_of
empty cid = refl

-- of another connection: no frame of the CID
pub other_frame : (cid : ℕ) (x : Endpoint) (w : Written) → Carries x w → (x.settings.connection ≡ cid → ⊥)
    → is_frame_of cid (on_bus w) ≡ false
other_frame cid x nothing c ne = empty cid
other_frame cid x (frame f body) c ne =
    frame_of_law cid f body c.0 ∙ ne_eqb f.connection cid (λ q. ne (sym c.1 ∙ q))
other_frame cid x (value bytes) c ne = empty cid

-- at an end, at a moment, after so many loadings of the slave
module _ (cid : ℕ) (slave : Bool) (m loads : ℕ) where
  -- what is no frame of the CID is not logged
  pub not_logged : (call : Call) (w : Written) → is_frame_of cid (on_bus w) ≡ false
      → logged cid slave m loads call w ≡ []
  not_logged call w h =
      cond_false (is_frame_of cid (on_bus w)) (sent slave m loads (on_bus w) (lent_to call) ∷ []) [] h

  -- of this connection: it is logged, as fields and body and as bytes
  pub own_log : (call : Call) (by : S.Call) (x : Endpoint) (w : Written)
      → Carries x w → x.settings.connection ≡ cid → lent_to call ≡ L.lent_to by
      → logged cid slave m loads call w ≡ to_log (L.logged slave m loads by w)
  unfolding to_log to_sent
  own_log call by x nothing c q l = not_logged call nothing (empty cid)
  own_log call by x (frame f body) c q l =
      cond_true (is_frame_of cid (frame_bytes f body)) (sent slave m loads (frame_bytes f body) (lent_to call) ∷ []) []
      (frame_of_law cid f body c.0 ∙ eq-eqb f.connection cid (c.1 ∙ q))
      ∙ ap (λ (v : Option (List ℕ)). sent slave m loads (frame_bytes f body) v ∷ []) l
  own_log call by x (value bytes) c q l = not_logged call (value bytes) (empty cid)

  pub own_good : (by : S.Call) (x : Endpoint) (w : Written) → Carries x w → x.settings.connection ≡ cid
      → AllGood cid (L.logged slave m loads by w)
  own_good by x nothing c q = no_more
  own_good by x (frame f body) c q =
      and_more (record { readable = c.0; has = c.1 ∙ q }) no_more
  own_good by x (value bytes) c q = no_more

-- a call that is refused gives no number
idle_gives : (slave : Bool) (loads : ℕ) (given : List L.Grant) {e : Endpoint} {t : ℕ} (i : Idle e t)
    → given ≡ L.given_after slave loads (S.act i.by) (S.call_of e t (S.act i.by)).answer given
idle_gives slave loads given {e} {t} i =
    let by = L.given_by loads i.by in
    sym (ap (λ (o : Outcome). cond (slave && is_done o.answer) by [] ++ given) i.comes
    ∙ ap (λ (b : Bool). cond (slave && b) by [] ++ given) i.refused
    ∙ ap (λ (b : Bool). cond b by [] ++ given) (and_false slave))

-- the call that does the same to the endpoint at n
pub record Matches (cid : ℕ) (slave : Bool) (m loads : ℕ) (given : List L.Grant) (d : Lent) (n t room : ℕ)
    (log : List L.Sent) (took : ℕ) (call : Call) : Type 0 where
  pub by : S.Call
  pub endpoint : endpoint_at (call_in d t room call).lent n ≡ (S.call_of (endpoint_at d n) t by).endpoint
  pub logs : logged cid slave m loads call (call_in d t room call).writes
      ≡ to_log (L.logged slave m loads by (S.call_of (endpoint_at d n) t by).writes)
  pub good : AllGood cid (L.logged slave m loads by (S.call_of (endpoint_at d n) t by).writes)
  pub shows : shown_by cid slave d m took (length log) call (call_in d t room call)
      ≡ L.shown_by slave m t took (length log) by (S.call_of (endpoint_at d n) t by).endpoint
  pub takes : took_by cid (to_log log) call (is_done (call_in d t room call).answer) took
      ≡ L.took_by log by (S.call_of (endpoint_at d n) t by).answer took
  pub gives : given_after cid slave d loads call (is_done (call_in d t room call).answer) given
      ≡ L.given_after slave loads by (S.call_of (endpoint_at d n) t by).answer given
  pub may : L.may_deliver given log by ≡ true
  pub like : Like (call_in d t room call).lent d

pub clocked : (d : Lent) (t : ℕ) → is_reading d.gateway t ≡ true → Whole d → after_clock t d ≡ clock_step t d
clocked d t reading whole = rw (reading, whole)

module _ (cid : ℕ) (slave : Bool) (m loads : ℕ) (given : List L.Grant) (d : Lent) (n t room : ℕ) (log : List L.Sent)
    (took : ℕ) where
  abbrev Match : Call → Type 0
  Match call = Matches cid slave m loads given d n t room log took call

  -- nothing is shown of the CID
  pub not_shown : (call : Call) (r : Result) → shows_value cid d call r ≡ false
      → shown_by cid slave d m took (length log) call r ≡ []
  not_shown call r h =
      cond_false (shows_value cid d call r)
      (L.shown slave (settings_for cid d) m (bytes_of r.writes) (ticks_in r.age) took (length log) ∷ []) [] h

  -- the endpoint took the clock step only, and nothing of the CID was written, shown, taken or given
  pub idle : (call : Call)
      → endpoint_at (call_in d t room call).lent n ≡ after_tick (endpoint_at d n) t
      → is_frame_of cid (on_bus (call_in d t room call).writes) ≡ false
      → shows_value cid d call (call_in d t room call) ≡ false
      → took_by cid (to_log log) call (is_done (call_in d t room call).answer) took ≡ took
      → given_after cid slave d loads call (is_done (call_in d t room call).answer) given ≡ given
      → Like (call_in d t room call).lent d
      → Match call
  unfolding to_log
  idle call en fr sh to gi li =
      let e = endpoint_at d n in
      let i = idle_at e t in
      let r = call_in d t room call in
      let k = S.act i.by in
      let w : (S.call_of e t k).writes ≡ nothing = ap (λ (o : Outcome). o.writes) i.comes in
      record {
        by = k;
        endpoint = en ∙ sym (ap (λ (o : Outcome). o.endpoint) i.comes);
        logs = not_logged cid slave m loads call r.writes fr
            ∙ sym (ap (λ (x : Written). to_log (L.logged slave m loads k x)) w);
        good = subst (λ (x : Written). AllGood cid (L.logged slave m loads k x)) (sym w) no_more;
        shows = not_shown call r sh;
        takes = to;
        gives = gi ∙ idle_gives slave loads given i;
        may = refl;
        like = li;
      }

  -- the same of a call that left what the clock step leaves
  pub only_clock : (call : Call) → Whole d → n < d.gateway.count
      → (call_in d t room call).lent ≡ clock_step t d
      → is_frame_of cid (on_bus (call_in d t room call).writes) ≡ false
      → shows_value cid d call (call_in d t room call) ≡ false
      → took_by cid (to_log log) call (is_done (call_in d t room call).answer) took ≡ took
      → given_after cid slave d loads call (is_done (call_in d t room call).answer) given ≡ given
      → Match call
  only_clock call w l q fr sh to gi =
      idle call (ap (λ (x : Lent). endpoint_at x n) q ∙ ticked_at d t n w l) fr sh to gi
      (subst (λ (x : Lent). Like x d) (sym q) (like_tick d t))
