-- What error records say changes nothing but what carries them: every call in both runs, every pair of lists of calls, and
-- tables as loaded.
use mathlib.Core.Path.{◌≡◌, refl, sym, ap, subst, subst₂, ◌∙◌}
use Rattle.std.specs.Prelude.{Err, Ok}
use Rattle.frame.specs.Reading.{Reading}
use Rattle.frame.specs.Reading.{frame_with}
use mathlib.Core.Bool.{Bool, true, false, ◌&&◌, not, cond, and-false, false≢true, true≢false}
use mathlib.Core.List.{List}
use Prim.Native.Nat.{ℕ}
use native.Mathlib.Omega.{arith}
use lib.Dec.{eqb, ltb}
use lib.ListN.{length}
use lib.Seq.{slice}
use borrow.Author.Tests.{ne_eqb}
use Rattle.errors.specs.declared.ErrorRecord.{ErrorRecord}
use Rattle.errors.specs.Reading.{is_record}
use Rattle.errors.specs.Writing.{bytes_of}
use Rattle.frame.specs.declared.Command.TheVariants as K
use Rattle.frame.specs.declared.Fields.{Fields}
use Rattle.frame.specs.Control.{is}
use Rattle.frame.specs.Reading.{reading_of}
use Rattle.frame.specs.Writing.{frame_bytes}
use Rattle.frame.specs.RoundTrip.{Readable}
use Rattle.frame.proofs.Lengths.{length_frame}
use Rattle.frame.proofs.ReadBack.{round_trip as frame-trip}
use Rattle.endpoint.specs.Endpoint.{Endpoint}
use Rattle.endpoint.specs.declared.Reason.{Reason}
use Rattle.endpoint.specs.declared.Reason.TheVariants as R
use Rattle.endpoint.specs.Answers.{Answer}
use Rattle.endpoint.specs.declared.Refusal.TheVariants.{Dropped, Ended}
use Rattle.endpoint.specs.Answers.{is_done}
use Rattle.endpoint.specs.Time.{is_expired, ended_of, after_tick}
use Rattle.transitions.specs.ByCall.{fresh_of}
use Rattle.steps.specs.Frames as W
use Rattle.steps.specs.Calls.{Outcome, send_of, is_fail_safe, shown_of, shown_age}
use Rattle.steps.specs.Deliveries.{deliver_of}
use Rattle.steps.specs.Laws.{Carries}
use Rattle.steps.specs.Steps as S
use Rattle.steps.specs.Steps.{Act}
use Rattle.steps.proofs.CallLaws.{step_laws}
use Rattle.steps.proofs.Keeps.{bcase}
use Rattle.settings.specs.Lists.{settings_at, count_of, is_list}
use Rattle.records.specs.declared.Record.{Record}
use Rattle.records.specs.Records.{record_of}
use Rattle.lent.specs.First.{length_filled}
use Rattle.gateway.specs.declared.Gateway.{Gateway}
use Rattle.gateway.specs.Tables.{Lent, lent, blank_record, endpoint_at, is_entry, place_of}
use Rattle.gateway.specs.Loading.{loaded_with, fresh_at, loaded_of}
use Rattle.gateway.specs.Calls.{Result, admit, admit_entry, refused_of, admit_in, acted_of, before_entry, on_entry}
use Rattle.gateway.specs.Calls.{is_short, before_show, shown_in, show_in, reason_of, by_reading, empty_cycle, deliver_in}
use Rattle.runs.proofs.Reaching.{lends, act_in_law}
use Rattle.runs.specs.Steps.{Call, act, send, deliver, show, act_in, call_in}
use Rattle.noninterference.specs.NonInterference.{OneToOne, carries_record, is_record_in, is_read_reply}
use Rattle.noninterference.specs.NonInterference.{reads_record, Exchanged, ExchangedFrame, ExchangedAct}
use Rattle.noninterference.specs.NonInterference.{ExchangedCall, ExchangedRecord, ExchangedLent, ExchangedWritten}
use Rattle.noninterference.specs.NonInterference.{ExchangedResult, ExchangedRuns, ExchangedCalls, NonInterference}
use Rattle.noninterference.proofs.Records.{alike, Bodies, readable_too}
use Rattle.noninterference.proofs.Connection.{held_with, Both, written_both, count_both, acts_both}
use Rattle.noninterference.proofs.Connection.{sends_both, delivers_both}
use Rattle.noninterference.proofs.Tables.{record_of_law, placed_both, endpoint_both, expired_same, shorter_same}
use Rattle.noninterference.proofs.Tables.{reading_same, place_same, step_both, clock_both, filled_both}

module _ (P : ErrorRecord → ErrorRecord) (one : OneToOne P) where
  -- ---- one call, where what is lent corresponds
  module _ (d d' : Lent) (D : ExchangedLent P d d') (t : ℕ) (c : Call) where
    by_test : {p p' q q' : Result} (b : Bool) → ExchangedResult P c p p' → ExchangedResult P c q q'
        → ExchangedResult P c (cond b p q) (cond b p' q')
    by_test true p q = p
    by_test false p q = q

    refused_both : (a : Answer) (n : ℕ) → ExchangedResult P c (refused_of a t n d) (refused_of a t n d')
    refused_both a n = record {
      answer = refl;
      entry = refl;
      failsafe = refl;
      age = refl;
      count = refl;
      writes = ExchangedWritten.same;
      lent = clock_both P d d' D t;
    }

    -- numbers 1 and 2
    admit_same : (short : Bool) (a : Answer) → admit_in d' t short a ≡ admit_in d t short a
    admit_same short a = λ i. admit (reading_same P d d' D t i) (shorter_same P d d' D i) short a

    entry_same : (n : ℕ) → is_entry d' n ≡ is_entry d n
    entry_same n = ap (λ (g : Gateway). ltb n g.count) D.gateway

    -- ---- a call on an entry
    before_same : (absent : Reason) (short : Bool) (n : ℕ)
        → before_entry absent d' t short n ≡ before_entry absent d t short n
    before_same absent short n =
        λ i. admit (reading_same P d d' D t i) (shorter_same P d d' D i) short
        (admit_entry (entry_same n i) absent (cond (expired_same P d d' D t n i) (Err (Ended R.Expired)) (Ok tt)))

    acted_both : (n : ℕ) (o o' : Outcome) → Both P c o o' → Carries (endpoint_at d n) o.writes
        → ExchangedResult P c (acted_of o t n d) (acted_of o' t n d')
    acted_both n o o' B r = record {
      answer = B.answer;
      entry = refl;
      failsafe = refl;
      age = refl;
      count = count_both P one c B.writes;
      writes = written_both P one c (endpoint_at d n) r B.writes;
      lent = placed_both P _ _ (step_both P d d' D t) n (record_of o.endpoint) (record_of o'.endpoint)
          (record_of_law P o.endpoint o'.endpoint B.left);
    }

    entry_both : (does does' : Endpoint → Outcome) (absent : Reason) (short : Bool) (n : ℕ)
        → Both P c (does (endpoint_at d n)) (does' (endpoint_at d' n))
        → Carries (endpoint_at d n) (does (endpoint_at d n)).writes
        → ExchangedResult P c (on_entry does absent d t short n) (on_entry does' absent d' t short n)
    entry_both does does' absent short n B r =
        let a = before_entry absent d t short n in
        let o = does (endpoint_at d n) in
        let o' = does' (endpoint_at d' n) in
        subst (λ (z : Answer). ExchangedResult P c (on_entry does absent d t short n)
        (cond (is_done z) (acted_of o' t n d') (refused_of z t n d'))) (sym (before_same absent short n))
        (by_test (is_done a) (acted_both n o o' B r) (refused_both a n))

    -- ---- a show: nobody sees the error record
    ticked_same : (b : Bool) (x : List ℕ) (e : Endpoint)
        → cond b (ended_of (held_with x e)) (held_with x e) ≡ held_with x (cond b (ended_of e) e)
    ticked_same true x e = refl
    ticked_same false x e = refl

    shown_same : {A : Type 0} (of : Endpoint → A) → ((x : List ℕ) (e : Endpoint) → of (held_with x e) ≡ of e) → (n : ℕ)
        → of (after_tick (endpoint_at d' n) t) ≡ of (after_tick (endpoint_at d n) t)
    shown_same of still n =
        let e = endpoint_at d n in
        let x = (endpoint_at d' n).errorinfo.bytes in
        ap (λ (y : Endpoint). of (after_tick y t)) (endpoint_both P d d' D n).same
        ∙ ap of (ticked_same (is_expired e t) x e) ∙ still x (after_tick e t)

    show_both : (room n : ℕ) → ExchangedResult P c (show_in d t room n) (show_in d' t room n)
    show_both room n =
        let a = before_show d t (is_short room) n in
        let y = after_tick (endpoint_at d n) t in
        let y' = after_tick (endpoint_at d' n) t in
        let v = shown_same shown_of (λ x e. refl) n in
        let q : before_show d' t (is_short room) n ≡ a =
        λ i. admit (reading_same P d d' D t i) (shorter_same P d d' D i) (is_short room)
        (admit_entry (entry_same n i) R.Entry (Ok tt)) in
        subst (λ (z : Answer). ExchangedResult P c (show_in d t room n)
        (cond (is_done z) (shown_in y' t n d') (refused_of z t n d'))) (sym q)
        (by_test (is_done a)
        (record {
          answer = refl;
          entry = refl;
          failsafe = shown_same is_fail_safe (λ x e. refl) n;
          age = shown_same (λ e. shown_age e t) (λ x e. refl) n;
          count = ap length v;
          writes = subst (λ (l : List ℕ). ExchangedWritten P c (W.value (shown_of y)) (W.value l)) (sym v)
              (ExchangedWritten.values (shown_of y));
          lent = step_both P d d' D t;
        }) (refused_both a n))

    -- ---- a deliver
    refused_by : (short : Bool) (a : Answer) (n : ℕ)
        → ExchangedResult P c (refused_of (admit_in d t short a) t n d) (refused_of (admit_in d' t short a) t n d')
    refused_by short a n =
        subst (λ (z : Answer). ExchangedResult P c (refused_of (admit_in d t short a) t n d) (refused_of z t n d'))
        (sym (admit_same short a)) (refused_both (admit_in d t short a) n)

    -- frames whose S-Data corresponds
    frame_both : (room : ℕ) (f : Fields) (b b' : List ℕ) → Bodies P f b b'
        → ((is f.command K.ReadErrorInfo && f.ack) ≡ true → reads_record c ≡ true)
        → ExchangedResult P c
        (on_entry (λ e. deliver_of e t f b) R.Unknown d t (is_short room) (place_of f.connection d))
        (on_entry (λ e. deliver_of e t f b') R.Unknown d' t (is_short room) (place_of f.connection d'))
    frame_both room f b b' H reads =
        let n = place_of f.connection d in
        subst (λ (m : ℕ). ExchangedResult P c (on_entry (λ e. deliver_of e t f b) R.Unknown d t (is_short room) n)
        (on_entry (λ e. deliver_of e t f b') R.Unknown d' t (is_short room) m)) (sym (place_same P d d' D f.connection))
        (entry_both (λ e. deliver_of e t f b) (λ e. deliver_of e t f b') R.Unknown (is_short room) n
        (delivers_both P one c (endpoint_at d n) (endpoint_at d' n) (endpoint_both P d d' D n) t f b b' H reads)
        (step_laws.carries (endpoint_at d n) t (S.deliver f b)))

  -- the same bytes, with no record in them
  plain_bodies : (f : Fields) (b : List ℕ) → (carries_record f && is_record b) ≡ false → Bodies P f b b
  plain_bodies f b n = record {
    carried = λ q. Exchanged.other b (rw q at n);
    plain = λ q. refl;
  }

  module _ (d d' : Lent) (D : ExchangedLent P d d') (t room : ℕ) where
    reading_both : (s : List ℕ) (r : Reading) → reading_of s ≡ r → is_record_in s r ≡ false
        → ExchangedResult P (deliver s) (by_reading d t room s r) (by_reading d' t room s r)
    reading_both s (Err fault) e n = refused_by d d' D t (deliver s) (is_short room) (Err (Dropped (reason_of fault))) 0
    reading_both s (Ok read) e n =
        frame_both d d' D t (deliver s) room read.fields (slice read.start read.end s) (slice read.start read.end s)
        (plain_bodies read.fields (slice read.start read.end s) n) (λ q. ap is_read_reply e ∙ q)

    -- a frame is not nothing
    arrives : (d : Lent) (f : Fields) (b : List ℕ) → Readable f b
        → deliver_in d t room (frame_bytes f b)
        ≡ on_entry (λ e. deliver_of e t f b) R.Unknown d t (is_short room) (place_of f.connection d)
    arrives d f b r =
        let s = frame_bytes f b in
        let l = length_frame f b in
        let q = frame-trip.there f b r in
        let z : eqb (length s) 0 ≡ false = ne_eqb (length s) 0 (λ e. omega (arith, l, e)) in
        ap (λ (y : Bool). cond y (empty_cycle d t (is_short room)) (by_reading d t room s (reading_of s))) z
        ∙ ap (by_reading d t room s) q.0
        ∙ ap (λ (y : List ℕ). on_entry (λ e. deliver_of e t f y) R.Unknown d t (is_short room) (place_of f.connection d))
        q.1

    deliver_both : {s s' : List ℕ} → ExchangedFrame P s s'
        → ExchangedResult P (deliver s) (deliver_in d t room s) (deliver_in d' t room s')
    deliver_both (ExchangedFrame.record' f x v k r) =
        let b = bytes_of x in
        let b' = bytes_of (P x) in
        let p = Exchanged.record' x v in
        let r' = readable_too P one f b b' (alike P one p).long r in
        let q = frame-trip.there f b r in
        subst₂ (ExchangedResult P (deliver (frame_bytes f b))) (sym (arrives d f b r)) (sym (arrives d' f b' r'))
        (frame_both d d' D t (deliver (frame_bytes f b)) room f b b'
        (record { carried = λ z. p; plain = λ z. absurd (true≢false (sym k ∙ z)) })
        (λ z. ap is_read_reply q.0 ∙ z))
    deliver_both (ExchangedFrame.other s n) =
        by_test d d' D t (deliver s) (eqb (length s) 0) (refused_by d d' D t (deliver s) (is_short room) (Ok tt) 0)
        (reading_both s (reading_of s) refl n)

    -- ---- every call
    -- an act, of which only a stop is lent an output
    on_act : (short : Bool) (n : ℕ) {a a' : Act} → ExchangedAct P a a' → ExchangedResult P (act a n)
        (on_entry (λ y. S.act_of y t a) R.Entry d t short n) (on_entry (λ y. S.act_of y t a') R.Entry d' t short n)
    on_act short n {a} {a'} p =
        let e = endpoint_at d n in
        entry_both d d' D t (act a n) (λ y. S.act_of y t a) (λ y. S.act_of y t a') R.Entry short n
        (acts_both P one (act a n) e (endpoint_at d' n) (endpoint_both P d d' D n) t p)
        (step_laws.carries e t (S.act a))

    act_both : (n : ℕ) {a a' : Act} → ExchangedAct P a a'
        → ExchangedResult P (act a n) (act_in d t room a n) (act_in d' t room a' n)
    act_both n (ExchangedAct.same a h) =
        subst₂ (ExchangedResult P (act a n)) (sym (act_in_law d t room a n)) (sym (act_in_law d' t room a n))
        (on_act (lends room a) n (ExchangedAct.same a h))
    act_both n (ExchangedAct.sets p) = on_act false n (ExchangedAct.sets p)
    act_both n (ExchangedAct.writes p) = on_act false n (ExchangedAct.writes p)

    call_both : {c c' : Call} → ExchangedCall P c c' → ExchangedResult P c (call_in d t room c) (call_in d' t room c')
    call_both (ExchangedCall.acts n p) = act_both n p
    call_both (ExchangedCall.sends n v) =
        let e = endpoint_at d n in
        entry_both d d' D t (send n v) (λ y. send_of y t v) (λ y. send_of y t v) R.Entry (is_short room) n
        (sends_both P one (send n v) e (endpoint_at d' n) (endpoint_both P d d' D n) t v)
        (step_laws.carries e t (S.send v))
    call_both (ExchangedCall.delivers p) = deliver_both p
    call_both (ExchangedCall.shows n) = show_both d d' D t (show n) room n

  -- ---- every list of calls
  runs_both : (d d' : Lent) → ExchangedLent P d d' → {vs vs' : List (ℕ × ℕ × Call)} → ExchangedCalls P vs vs'
      → ExchangedRuns P d d' vs vs'
  runs_both d d' D ExchangedCalls.none = ExchangedRuns.none D
  runs_both d d' D (ExchangedCalls.next t room {c} {c'} p l) =
      let r = call_both d d' D t room p in
      ExchangedRuns.next t room c c' r
      (runs_both (call_in d t room c).lent (call_in d' t room c').lent r.lent l)

-- ---- as loaded: a connection in Close has no error record
module _ (P : ErrorRecord → ErrorRecord) where
  fresh_both : (number : ℕ) (ws : List ℕ) (i : ℕ) → ExchangedRecord P (fresh_at number ws i) (fresh_at number ws i)
  fresh_both number ws i =
      let e = fresh_of (settings_at ws i) number in
      record_of_law P e e (record {
        same = refl;
        errorinfo = λ q. absurd (false≢true (sym (and-false (not e.settings.slave)) ∙ q));
      })

  loaded_both : (number : ℕ) (ws : List ℕ) (g : Gateway) (rs rs' : List Record)
      → ExchangedLent P (lent g rs) (lent g rs')
      → ExchangedLent P (loaded_of number ws rs).lent (loaded_of number ws rs').lent
  loaded_both number ws g rs rs' D =
      let fresh = fresh_at number ws in
      let stays : ExchangedLent P (lent (loaded_with 0) rs) (lent (loaded_with 0) rs') =
      record { gateway = refl; whole = D.whole; records = D.records } in
      bcase (is_list ws)
      (λ l. rw (l, D.whole) (bcase (ltb (length rs) (count_of ws)) (λ q. rw q stays)
      (λ q. rw q (record {
        gateway = refl;
        whole = length_filled fresh (count_of ws) rs' ∙ D.whole ∙ sym (length_filled fresh (count_of ws) rs);
        records = filled_both (ExchangedRecord P) blank_record fresh (fresh_both number ws) (count_of ws) rs rs'
            D.whole D.records;
      }))))
      (λ l. rw l stays)

pub non_interference : NonInterference
non_interference = record {
  loaded = loaded_both;
  runs = λ P one d d' D vs vs' l. runs_both P one d d' D l;
}
