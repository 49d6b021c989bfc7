-- The shows of a run and their sends: stable while the log grows, and one more show.
use mathlib.Core.Path.{◌≡◌, refl, sym, ap, subst, ◌∙◌}
use Rattle.std.specs.Prelude.{Some}
use mathlib.Core.Bool.{Bool, true, false, not, cond}
use mathlib.Core.List.{List, [], ◌∷◌, ◌++◌}
use Prim.Native.Nat.{ℕ, suc, ◌+◌, ◌≤◌, ◌<◌}
use native.Mathlib.Numerals.{add-one}
use native.Mathlib.Omega.{arith}
use native.Mathlib.Decide.{dec_lt}
use lib.ListN.{length, length-append, get_or-append}
use lib.Seq.{get_or-append_seam}
use borrow.Author.Tests.{eq-eqb}
use Rattle.frame.specs.declared.Command.TheVariants as K
use Rattle.frame.specs.declared.Fields.{Fields}
use Rattle.frame.specs.Control.{is, code_of}
use Rattle.endpoint.specs.declared.Settings.{Settings}
use Rattle.endpoint.specs.Time.{drift_allowance, bound_of}
use Rattle.link.specs.Runs.{Sent, no_sent, sent_at, Show, shown, no_show, show_at}
use Rattle.link.specs.Fresh.{Aged, drift_share, ItsSend}
use Rattle.link.proofs.Marks.{Mark, at}
use Rattle.link.proofs.Relation.{who_of, marks, Honest}
use Rattle.link.proofs.Entries.{size_marks, at_marks}
use Rattle.link.proofs.Shown.{ShownAt, share_at, margin_at}

pub record HasSend (log : List Sent) (x : Show) : Type 0 where
  pub place : ℕ
  pub sent : x.sent ≡ suc place
  pub early : place < x.written
  pub known : x.written ≤ length log
  pub fits : ItsSend x (sent_at log place)

-- the master's settings are those of the first loading, and so are the slave's where it was not loaded again
abbrev pub Own : Settings → Settings → ℕ → Show → Type 0
Own sm ss loads x = (x.slave ≡ true → loads ≡ 0) → x.settings ≡ cond x.slave ss sm

pub record ShowsInv (sm ss : Settings) (loads : ℕ) (log : List Sent) (tm ts : ℕ) (shows : List Show) : Type 0 where
  pub its : (i : ℕ) → i < length shows → HasSend log (show_at shows i)
  pub own : (i : ℕ) → i < length shows → Own sm ss loads (show_at shows i)
  pub below : (i : ℕ) → i < length shows → (show_at shows i).sent ≤ cond (show_at shows i).slave ts tm
  pub order : (i j : ℕ) → i < j → j < length shows → (show_at shows i).slave ≡ (show_at shows j).slave
      → (show_at shows i).sent ≤ (show_at shows j).sent

entry_kept : (log ext : List Sent) (i : ℕ) → i < length log → sent_at (log ++ ext) i ≡ sent_at log i
unfolding sent_at
entry_kept log ext i h = get_or-append log ext no_sent i h

cond_le : (b : Bool) (ts ts' tm tm' : ℕ) → ts ≤ ts' → tm ≤ tm' → cond b ts tm ≤ cond b ts' tm'
cond_le true ts ts' tm tm' h k = h
cond_le false ts ts' tm tm' h k = k

-- the slave is loaded again
pub reloaded : {sm ss : Settings} {loads : ℕ} {log : List Sent} {tm ts : ℕ} {shows : List Show}
    → ShowsInv sm ss loads log tm ts shows → ShowsInv sm ss (suc loads) log tm ts shows
reloaded v = record {
  its = v.its;
  own = λ i h f. v.own i h (λ s. let z = f s in absurd (omega arith));
  below = v.below;
  order = v.order;
}

module _ (sm ss : Settings) (loads : ℕ) where
  -- the log grows, and what was taken rises
  pub grow : (log ext : List Sent) (tm ts tm' ts' : ℕ) (shows : List Show) → tm ≤ tm' → ts ≤ ts'
      → ShowsInv sm ss loads log tm ts shows → ShowsInv sm ss loads (log ++ ext) tm' ts' shows
  grow log ext tm ts tm' ts' shows h k v = record {
    its = λ i j.
        let s = v.its i j in
        let k = s.early in
        let n = s.known in
        let e = length-append log ext in
        record {
          place = s.place;
          sent = s.sent;
          early = s.early;
          known = omega arith;
          fits = subst (ItsSend (show_at shows i)) (sym (entry_kept log ext s.place (omega arith))) s.fits;
        };
    own = v.own;
    below = λ i j. let a = v.below i j in let b = cond_le (show_at shows i).slave ts ts' tm tm' k h in omega arith;
    order = v.order;
  }

  -- ---- one show more
  module _ (log : List Sent) (tm ts : ℕ) (shows : List Show) (x : Show) where
    longer : length (shows ++ (x ∷ [])) ≡ suc (length shows)
    longer = length-append shows (x ∷ []) ∙ add-one (length shows)

    show_old : (i : ℕ) → i < length shows → show_at (shows ++ (x ∷ [])) i ≡ show_at shows i
    unfolding show_at
    show_old i h = get_or-append shows (x ∷ []) no_show i h

    show_new : show_at (shows ++ (x ∷ [])) (length shows) ≡ x
    unfolding show_at
    show_new = get_or-append_seam shows x [] no_show

    each_show : (P : Show → Type 0) → ((i : ℕ) → i < length shows → P (show_at shows i)) → P x → (i : ℕ)
        → i < length (shows ++ (x ∷ []))
        → P (show_at (shows ++ (x ∷ [])) i)
    each_show P f p i h =
        elim (dec_lt i (length shows)) [
          | yes g ↦ subst P (sym (show_old i g)) (f i g)
          | no g ↦ let e : i ≡ length shows = omega (arith, longer) in subst P
              (sym (ap (show_at (shows ++ (x ∷ []))) e ∙ show_new)) p
        ]

    pub add : HasSend log x → Own sm ss loads x → x.sent ≡ cond x.slave ts tm
        → ShowsInv sm ss loads log tm ts shows → ShowsInv sm ss loads log tm ts (shows ++ (x ∷ []))
    add s o e v = record {
      its = each_show (HasSend log) v.its s;
      own = each_show (Own sm ss loads) v.own o;
      below = each_show (λ (y : Show). y.sent ≤ cond y.slave ts tm) v.below (omega arith);
      order = λ i j h k q. ordered i j h k q;
    }
      where
        last : (i : ℕ) → i < length shows → (show_at shows i).slave ≡ x.slave → (show_at shows i).sent ≤ x.sent
        last i h q = let b = subst (λ (y : Bool). (show_at shows i).sent ≤ cond y ts tm) q (v.below i h) in omega arith

        ordered : (i j : ℕ) → i < j → j < length (shows ++ (x ∷ []))
            → (show_at (shows ++ (x ∷ [])) i).slave ≡ (show_at (shows ++ (x ∷ [])) j).slave
            → (show_at (shows ++ (x ∷ [])) i).sent ≤ (show_at (shows ++ (x ∷ [])) j).sent
        ordered i j h k q =
            elim (dec_lt j (length shows)) [
              | yes g ↦
                  let a = show_old i (omega arith) in
                  let b = show_old j g in
                  let o = v.order i j h g (sym (ap (λ (y : Show). y.slave) a) ∙ q ∙ ap (λ (y : Show). y.slave) b) in
                  let a' = ap (λ (y : Show). y.sent) a in
                  let b' = ap (λ (y : Show). y.sent) b in
                  omega arith
              | no g ↦
                  let z : j ≡ length shows = omega (arith, longer) in
                  let n : i < length shows = omega arith in
                  let a = show_old i n in
                  let b = ap (show_at (shows ++ (x ∷ []))) z ∙ show_new in
                  let o = last i n (sym (ap (λ (y : Show). y.slave) a) ∙ q ∙ ap (λ (y : Show). y.slave) b) in
                  let a' = ap (λ (y : Show). y.sent) a in
                  let b' = ap (λ (y : Show). y.sent) b in
                  omega arith
            ]

-- ---- what is shown was sent by the other end
kind_master : (a b : Bool) → ◌≡◌ {A = ℕ} (cond a (cond b 2 1) 0) 2 → a ≡ true
kind_master true b h = refl
kind_master false b h = absurd (omega arith)

kind_slave : (a b : Bool) → ◌≡◌ {A = ℕ} (cond a (cond b 2 1) 0) 0 → a ≡ false
kind_slave true true h = absurd (omega arith)
kind_slave true false h = absurd (omega arith)
kind_slave false b h = refl

pub writer_of : (slave : Bool) (f : Fields) → who_of f ≡ cond slave 0 2 → f.application ≡ not slave
writer_of true f h = kind_slave f.application (is f.command K.Refresh) h
writer_of false f h = kind_master f.application (is f.command K.Refresh) h

-- how old it is, where the drift has so large a share
aged_at : (slave : Bool) (s : Settings) (share : ℕ) {l : List Mark} {kind took m f n : ℕ} {v : List ℕ}
    → share_at slave s ≤ share → (h : ShownAt l kind took m f (margin_at slave s) v)
    → Aged share (shown slave s m v f took n) (at l h.place).moment
aged_at slave s share k h =
    record { before = h.past; young = omega arith; low = omega arith; high = omega arith; most = h.most }

-- and the 10 of the bound are enough
share_small : (slave : Bool) (s : Settings) → s.interval ≤ 65535 → share_at slave s ≤ drift_allowance
share_small true s h = omega arith
share_small false s h = omega arith

bounded_at : (slave : Bool) (s : Settings) (m sent : ℕ) → s.slave ≡ slave
    → m ≤ sent + (s.age + (s.interval + (cond slave 0 s.roundtrip + drift_allowance))) → m ≤ sent + bound_of s
bounded_at slave s m sent e h =
    subst (λ (b : Bool). m ≤ sent + (s.age + (s.interval + (cond b 0 s.roundtrip + drift_allowance)))) (sym e) h

-- e are the settings of the end that shows it
pub sent_by : (sm e : Settings) (log : List Sent) (slave : Bool) (took m age : ℕ) (bytes : List ℕ) → e.slave ≡ slave
    → e.interval ≤ 65535 → ((i : ℕ) → i < length log → Honest sm (sent_at log i))
    → ShownAt (marks log) (cond slave 0 2) took m age (margin_at slave e) bytes
    → HasSend log (shown slave e m bytes age took (length log))
sent_by sm e log slave took m age bytes role few honest s =
    let k = s.place in
    let n : k < length log = let z = s.there in let y = size_marks log in omega arith in
    let q = at_marks log k n in
    let h = honest k n in
    let w : who_of (sent_at log k).fields ≡ cond slave 0 2 = sym (ap (λ (y : Mark). y.who) q) ∙ s.who in
    let r : is (sent_at log k).fields.command K.Refresh ≡ true =
    eq-eqb (code_of (sent_at log k).fields.command) 255 (sym (ap (λ (y : Mark). y.code) q) ∙ s.code) in
    let its : (share : ℕ) → share_at slave e ≤ share
    → Aged share (shown slave e m bytes age took (length log)) (sent_at log k).moment =
    λ share u. subst (Aged share (shown slave e m bytes age took (length log))) (ap (λ (y : Mark). y.moment) q)
    (aged_at slave e share u s) in
    let asked = its drift_allowance (share_small slave e few) in
    record {
      place = k;
      sent = s.held;
      early = n;
      known = omega arith;
      fits = record {
        other = sym h.writer ∙ writer_of slave (sent_at log k).fields w;
        refresh = r;
        value = h.value r ∙ ap Some (sym (ap (λ (y : Mark). y.body) q) ∙ s.body);
        bounded = bounded_at slave e m (sent_at log k).moment role asked.young;
        aged = asked;
        sharper = its (drift_share (shown slave e m bytes age took (length log))) (omega arith);
      };
    }
