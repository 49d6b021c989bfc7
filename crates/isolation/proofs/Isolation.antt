-- Two runs, alike for one connection: its record, and all that its calls look at beside it, stay the same in both.
use mathlib.Core.Path.{◌≡◌, refl, sym, ap, ap₂, subst, subst₂, ◌∙◌}
use Rattle.std.specs.Prelude.{Err, None, Ok, Option, Some, ℕ}
use Rattle.frame.specs.Reading.{Reading}
use Rattle.frame.specs.Reading.{frame_with}
use mathlib.Core.Bool.{Bool, true, false, ◌&&◌, ◌||◌, not, cond, false≢true}
use mathlib.Core.List.{List, [], ◌∷◌}
use Prim.Native.Nat.{ℕ, suc, ◌+◌, ◌*◌, ◌<◌}
use native.Mathlib.Omega.{arith}
use lib.Dec.{eqb, leb, lit<}
use lib.ListN.{length, get_or, drop, take}
use lib.Seq.{slice, get_or-take, get_or-drop}
use borrow.Author.Tests.{eqb-true}
use Rattle.frame.specs.declared.Fault.TheVariants as F
use Rattle.frame.specs.Reading.{reading_of}
use Rattle.endpoint.specs.declared.Settings.{Settings}
use Rattle.endpoint.specs.Endpoint.{Endpoint}
use Rattle.endpoint.specs.declared.Reason.{Reason}
use Rattle.endpoint.specs.declared.Reason.TheVariants as R
use Rattle.endpoint.specs.Answers.{Answer}
use Rattle.endpoint.specs.Answers.{is_done}
use Rattle.endpoint.specs.Time.{last_reading, after_tick}
use Rattle.transitions.specs.ByCall.{fresh_of}
use Rattle.steps.specs.Frames.{Written, nothing}
use Rattle.steps.specs.Frames as W
use Rattle.steps.specs.Calls.{Outcome, send_of, is_fail_safe, shown_of, shown_age}
use Rattle.steps.specs.Deliveries.{deliver_of}
use Rattle.steps.specs.Steps as S
use Rattle.steps.proofs.Keeps.{bcase}
use Rattle.settings.specs.Lists.{word_of, connection_at, settings_at, count_of}
use Rattle.records.specs.declared.Record.{Record}
use Rattle.records.specs.Records.{endpoint_of, record_of}
use Rattle.gateway.specs.declared.Gateway.{Gateway}
use Rattle.gateway.specs.Tables.{Lent, record_at, endpoint_at, is_entry, is_shorter, place_of, is_reading, ticked, is_timely}
use Rattle.gateway.specs.Tables.{after_clock}
use Rattle.gateway.specs.Loading.{loaded_of}
use Rattle.gateway.specs.Calls.{Result, refused_entry, refused_of, acted_of, before_entry, on_entry, is_short}
use Rattle.gateway.specs.Calls.{send_in, before_show, show_in, shown_in, by_reading, empty_cycle, deliver_in}
use Rattle.runs.proofs.Reaching.{lends, act_in_law}
use Rattle.runs.specs.Bus.{is_of}
use Rattle.runs.specs.Steps.{Call, act, send, deliver, show, act_in, call_in}
use Rattle.isolation.specs.Isolation.{AlikeAt, UpTo, Event, is_for, Alike, same, others, AlikeAll, none}
use Rattle.isolation.specs.Isolation.{next, Told, told, told_of, Isolation}
use Rattle.isolation.proofs.Changes.{clock_last, clock_below, entry_record}
use Rattle.isolation.proofs.Changes.{one_record}
use Rattle.isolation.proofs.Tables.{Table, counted, within, is_entry_law, not_shorter, place_own, absent_at, apart}
use Rattle.isolation.proofs.Tables.{table_kept, loaded_with_law, loaded_at, loaded_table}

-- ---- what a call on an entry tells: by its answer before the step, and by the step
abbrev tell : Answer → Option ℕ → Written → Bool → Option ℕ → Told
tell a entry w failsafe age = record { answer = a; entry = entry; writes = w; failsafe = failsafe; age = age }

abbrev told_by : Answer → ℕ → Told → Told
told_by a n x = cond (is_done a) x (tell a (refused_entry a n) nothing false None)

told_cond : (b : Bool) (x y : Result) → told (cond b x y) ≡ cond b (told x) (told y)
told_cond true x y = refl
told_cond false x y = refl

-- no bytes are no frame
no_frame : (s : List ℕ) → eqb (length s) 0 ≡ true → reading_of s ≡ Err F.Length
unfolding reading_of
no_frame [] z = refl
no_frame (x ∷ s) z = let q = eqb-true (suc (length s)) 0 z in absurd (omega (arith, q))

-- ---- the two runs between calls
module _ (e : ℕ) (ws ws' : List ℕ) where
  record Same (d d' : Lent) : Type 0 where
    last : d.gateway.last ≡ d'.gateway.last
    own : record_at d.records e ≡ record_at d'.records e
    table : Table ws d
    table' : Table ws' d'

  -- the same told, and the same record of the entry
  record Both (r r' : Result) : Type 0 where
    says : told r ≡ told r'
    leaves : record_at r.lent.records e ≡ record_at r'.lent.records e

  module _ (there : e < count_of ws) (there' : e < count_of ws') (cid : connection_at ws e ≡ connection_at ws' e)
      (d d' : Lent) (H : Same d d') (t : ℕ) where
    reading_same : is_reading d.gateway t ≡ is_reading d'.gateway t
    reading_same =
        ap (λ (l : ℕ). leb l t && leb t last_reading) H.last

    shorter_same : is_shorter d ≡ is_shorter d'
    shorter_same = not_shorter ws d H.table e there ∙ sym (not_shorter ws' d' H.table' e there')

    entry_same : is_entry d e ≡ is_entry d' e
    entry_same = is_entry_law ws d H.table e there ∙ sym (is_entry_law ws' d' H.table' e there')

    timely_same : is_timely d t ≡ is_timely d' t
    timely_same = ap₂ (λ (r s : Bool). r && not s) reading_same shorter_same

    endpoint_same : endpoint_at d e ≡ endpoint_at d' e
    unfolding endpoint_at
    endpoint_same = ap endpoint_of H.own

    -- the entry's record after the clock step
    clocked_same : record_at (after_clock t d).records e ≡ record_at (after_clock t d').records e
    clocked_same =
        clock_below d t e (counted ws d H.table e there) (within ws d H.table e there)
        ∙ ap₂ (λ (b : Bool) (r : Record). cond b (ticked t r) r) timely_same H.own
        ∙ sym (clock_below d' t e (counted ws' d' H.table' e there') (within ws' d' H.table' e there'))

    -- ---- a call on the entry
    before_same : (absent : Reason) (short : Bool)
        → before_entry absent d t short e ≡ before_entry absent d' t short e
    before_same absent short = rw (reading_same, shorter_same, entry_same, endpoint_same)

    both_entry : (does : Endpoint → Outcome) (absent : Reason) (short : Bool)
        → Both (on_entry does absent d t short e) (on_entry does absent d' t short e)
    both_entry does absent short =
        let a = before_entry absent d t short e in
        let a' = before_entry absent d' t short e in
        let o = does (endpoint_at d e) in
        let o' = does (endpoint_at d' e) in
        let c = record_at (after_clock t d').records e in
        record {
          says = told_cond (is_done a) (acted_of o t e d) (refused_of a t e d)
              ∙ ap₂ (λ (b : Answer) (x : Outcome). told_by b e (tell x.answer (Some e) x.writes false None))
              (before_same absent short) (ap does endpoint_same)
              ∙ sym (told_cond (is_done a') (acted_of o' t e d') (refused_of a' t e d'));
          leaves = entry_record d t does absent short e (within ws d H.table e there)
              ∙ ap (λ (y : Record). cond (is_done a) (record_of o.endpoint) y) clocked_same
              ∙ ap₂ (λ (b : Answer) (x : Endpoint). cond (is_done b) (record_of (does x).endpoint) c)
              (before_same absent short) endpoint_same
              ∙ sym (entry_record d' t does absent short e (within ws' d' H.table' e there'));
        }

    -- ---- a show of it
    both_show : (room : ℕ) → Both (show_in d t room e) (show_in d' t room e)
    both_show room =
        let a = before_show d t (is_short room) e in
        let a' = before_show d' t (is_short room) e in
        let x = after_tick (endpoint_at d e) t in
        let x' = after_tick (endpoint_at d' e) t in
        let q : a ≡ a' = rw (reading_same, shorter_same, entry_same) in
        record {
          says = told_cond (is_done a) (shown_in x t e d) (refused_of a t e d)
              ∙ ap₂ (λ (b : Answer) (y : Endpoint). told_by b e
              (tell (Ok tt) (Some e) (W.value (shown_of y)) (is_fail_safe y) (shown_age y t)))
              q (ap (λ (y : Endpoint). after_tick y t) endpoint_same)
              ∙ sym (told_cond (is_done a') (shown_in x' t e d') (refused_of a' t e d'));
          leaves = (one_record d t room (show e)).others e absent_at ∙ clocked_same
              ∙ sym ((one_record d' t room (show e)).others e absent_at);
        }

    -- ---- a frame of its CID
    both_frame : (room : ℕ) (s : List ℕ) (r : Reading) → is_of (connection_at ws e) r ≡ true
        → Both (by_reading d t room s r) (by_reading d' t room s r)
    both_frame room s (Err fault) h = absurd (false≢true h)
    both_frame room s (Ok read) h =
        let does : Endpoint → Outcome = λ x. deliver_of x t read.fields (slice read.start read.end s) in
        let c = eqb-true read.fields.connection (connection_at ws e) h in
        let p : place_of read.fields.connection d ≡ e =
        ap (λ (k : ℕ). place_of k d) c ∙ place_own ws d H.table e there in
        let p' : place_of read.fields.connection d' ≡ e =
        ap (λ (k : ℕ). place_of k d') (c ∙ cid) ∙ place_own ws' d' H.table' e there' in
        subst₂ (λ (n m : ℕ). Both (on_entry does R.Unknown d t (is_short room) n)
        (on_entry does R.Unknown d' t (is_short room) m)) (sym p) (sym p') (both_entry does R.Unknown (is_short room))

    both_bytes : (room : ℕ) (s : List ℕ) → is_of (connection_at ws e) (reading_of s) ≡ true
        → Both (deliver_in d t room s) (deliver_in d' t room s)
    both_bytes room s h =
        bcase (eqb (length s) 0) (λ z. absurd (false≢true (ap (is_of (connection_at ws e)) (sym (no_frame s z)) ∙ h)))
        (λ z. subst (λ (b : Bool). Both (cond b (empty_cycle d t (is_short room)) (by_reading d t room s (reading_of s)))
        (cond b (empty_cycle d' t (is_short room)) (by_reading d' t room s (reading_of s)))) (sym z)
        (both_frame room s (reading_of s) h))

    -- ---- so every call for it
    both_act : (room : ℕ) (a : S.Act) → Both (act_in d t room a e) (act_in d' t room a e)
    both_act room a =
        subst₂ Both (sym (act_in_law d t room a e)) (sym (act_in_law d' t room a e))
        (both_entry (λ x. S.act_of x t a) R.Entry (lends room a))

    -- which names it, or has its CID
    both : (room : ℕ) (c : Call) → is_for e (connection_at ws e) c ≡ true → Both (call_in d t room c) (call_in d' t room c)
    both room (act a n) h =
        subst (λ (k : ℕ). Both (act_in d t room a k) (act_in d' t room a k)) (sym (eqb-true n e h)) (both_act room a)
    both room (send n value) h =
        subst (λ (k : ℕ). Both (send_in d t room k value) (send_in d' t room k value)) (sym (eqb-true n e h))
        (both_entry (λ x. send_of x t value) R.Entry (is_short room))
    both room (deliver s) h = both_bytes room s h
    both room (show n) h =
        subst (λ (k : ℕ). Both (show_in d t room k) (show_in d' t room k)) (sym (eqb-true n e h)) (both_show room)

    -- ---- between the next calls, where these leave the same record
    still : (room room' : ℕ) (c c' : Call)
        → record_at (call_in d t room c).lent.records e ≡ record_at (call_in d' t room' c').lent.records e
        → Same (call_in d t room c).lent (call_in d' t room' c').lent
    still room room' c c' own =
        let g = (one_record d t room c).gateway in
        let g' = (one_record d' t room' c').gateway in
        let last : Gateway → ℕ = λ x. x.last in
        record {
          last = ap last g ∙ clock_last d t ∙ ap₂ (λ (b : Bool) (n : ℕ). cond b t n) timely_same H.last
              ∙ sym (ap last g' ∙ clock_last d' t);
          own = own;
          table = table_kept ws d H.table t room c;
          table' = table_kept ws' d' H.table' t room' c';
        }

  -- ---- every list
  module _ (there : e < count_of ws) (there' : e < count_of ws') (cid : connection_at ws e ≡ connection_at ws' e) where
    step : {v v' : Event} → Alike e (connection_at ws e) v v' → (d d' : Lent) → Same d d'
        → Same (call_in d v.clock v.room v.call).lent (call_in d' v'.clock v'.room v'.call).lent
    step (same t room c h) d d' H =
        still there there' cid d d' H t room room c c (both there there' cid d d' H t room c h).leaves
    step (others t room room' c c' h h') d d' H =
        still there there' cid d d' H t room room' c c' (apart ws d H.table e there t room c h
        ∙ clocked_same there there' cid d d' H t
        ∙ sym (apart ws' d' H.table' e there' t room' c' (subst (λ (k : ℕ). is_for e k c' ≡ false) cid h')))

    tells : {v v' : Event} → Alike e (connection_at ws e) v v' → (d d' : Lent) → Same d d' → (vs vs' : List Event)
        → told_of e (connection_at ws e) (call_in d v.clock v.room v.call).lent vs
        ≡ told_of e (connection_at ws e) (call_in d' v'.clock v'.room v'.call).lent vs'
        → told_of e (connection_at ws e) d (v ∷ vs) ≡ told_of e (connection_at ws e) d' (v' ∷ vs')
    unfolding told_of
    tells (same t room c h) d d' H vs vs' q =
        rw h (ap₂ (λ (x : Told) (xs : List Told). x ∷ xs) (both there there' cid d d' H t room c h).says q)
    tells (others t room room' c c' h h') d d' H vs vs' q = rw (h, h') q

    all : {vs vs' : List Event} → AlikeAll e (connection_at ws e) vs vs' → (d d' : Lent) → Same d d'
        → told_of e (connection_at ws e) d vs ≡ told_of e (connection_at ws e) d' vs'
    unfolding told_of
    all none d d' H = refl
    all (next {vs = vs} {vs' = vs'} a l) d d' H = tells a d d' H vs vs' (all l _ _ (step a d d' H))

-- ---- as loaded
-- the words of an entry are its seven
word_at_law : (e : ℕ) (ws : List ℕ) (j : ℕ) → j < 7 → word_of ws e j ≡ get_or (slice (7 * e) (7 * e + 7) ws) j 0
word_at_law e ws j l =
    sym (get_or-drop (7 * e) (take (7 * e + 7) ws) j 0 ∙ get_or-take (7 * e + 7) ws (7 * e + j) 0 (omega arith))

word_same : (e : ℕ) (ws ws' : List ℕ) → AlikeAt e ws ws' → (j : ℕ) → j < 7 → word_of ws e j ≡ word_of ws' e j
word_same e ws ws' h j l = word_at_law e ws j l ∙ ap (λ (x : List ℕ). get_or x j 0) h ∙ sym (word_at_law e ws' j l)

settings_same : (e : ℕ) (ws ws' : List ℕ) → AlikeAt e ws ws' → settings_at ws e ≡ settings_at ws' e
unfolding settings_at
settings_same e ws ws' h =
    let s : (j : ℕ) → j < 7 → word_of ws e j ≡ word_of ws' e j = word_same e ws ws' h in
    rw (s 0 (lit< tt), s 1 (lit< tt), s 2 (lit< tt), s 3 (lit< tt), s 4 (lit< tt), s 5 (lit< tt), s 6 (lit< tt))

cid_same : (e : ℕ) (ws ws' : List ℕ) → AlikeAt e ws ws' → connection_at ws e ≡ connection_at ws' e
unfolding connection_at settings_at
cid_same e ws ws' h = ap (λ (s : Settings). s.connection) (settings_same e ws ws' h)

pub up_to : UpTo
up_to e ws ws' h = ap (drop (7 * e)) h

pub isolation : Isolation
isolation number e ws ws' rs rs' L vs vs' a =
    let q = (loaded_with_law number ws rs L.done).is in
    let q' = (loaded_with_law number ws' rs' L.done').is in
    all e ws ws' L.entry L.entry' (cid_same e ws ws' L.alike) a (loaded_of number ws rs).lent
    (loaded_of number ws' rs').lent
    (record {
      last = ap (λ (d : Lent). d.gateway.last) q ∙ sym (ap (λ (d : Lent). d.gateway.last) q');
      own = loaded_at number ws rs L.done e L.entry
          ∙ ap (λ (s : Settings). record_of (fresh_of s number)) (settings_same e ws ws' L.alike)
          ∙ sym (loaded_at number ws' rs' L.done' e L.entry');
      table = loaded_table number ws rs L.done;
      table' = loaded_table number ws' rs' L.done';
    })
