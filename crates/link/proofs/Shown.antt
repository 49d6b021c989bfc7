-- What is shown: the body of the S-Refresh last taken, and its age.
use mathlib.Core.Path.{◌≡◌, sym, ap, ◌∙◌}
use Rattle.std.specs.Prelude.{None, Option, Some}
use mathlib.Core.Bool.{Bool, true, false, ◌&&◌, cond, true≢false}
use mathlib.Core.List.{List, ◌++◌}
use Prim.Native.Nat.{ℕ, zero, suc, ◌+◌, ◌-◌, ◌^◌, ◌≤◌, ◌<◌}
use native.Mathlib.Omega.{arith}
use lib.ListN.{length, take, drop, replicate}
use lib.Seq.{take_all, take_at}
use borrow.Author.Tests.{not-false}
use mathlib.Mathlib.Data.Bool.Basic.{and_elim_left as and_left, and_elim_right as and_right}
use Rattle.endpoint.specs.declared.Settings.{Settings}
use Rattle.endpoint.specs.declared.State.TheVariants.{Refresh}
use Rattle.endpoint.specs.Endpoint.{Endpoint}
use Rattle.endpoint.specs.Table.{is_state}
use Rattle.endpoint.specs.Time.{held_age}
use Rattle.steps.specs.Frames.{show_width}
use Rattle.steps.specs.Calls.{is_fail_safe, held_or, shown_of}
use Rattle.steps.specs.Frames.{padded_of}
use Rattle.steps.proofs.Shows.{show_width_le}
use Rattle.link.specs.Clocks.{drift}
use Rattle.link.proofs.Marks.{Mark, size, at, Each}
use Rattle.link.proofs.Invariant.{Held, Margin, ValueOf}
use Rattle.link.proofs.Relation.{Holds}

-- the margin of a shown age, by the settings of the end that shows it
abbrev pub share_at : Bool → Settings → ℕ
share_at slave s = 3 + cond slave (drift s.interval) 0

abbrev pub margin_at : Bool → Settings → Margin
margin_at slave s = record {
  most = s.age + s.interval;
  low = cond slave 0 s.roundtrip + share_at slave s;
  high = cond slave s.roundtrip 0 + share_at slave s;
}

-- a margin within another, which is so small that no age overflows
pub record Within (a b : Margin) : Type 0 where
  pub most : a.most ≤ b.most
  pub low : a.low ≤ b.low
  pub high : a.high ≤ b.high
  pub small : b.most < 2 ^ 64

-- a value shown at moment m with age f: the place of its frame, and how old that is
pub record ShownAt (l : List Mark) (kind took m f : ℕ) (a : Margin) (v : List ℕ) : Type 0 where
  pub place : ℕ
  pub held : took ≡ suc place
  pub there : place < size l
  pub who : (at l place).who ≡ kind
  pub code : (at l place).code ≡ 255
  pub body : (at l place).body ≡ v
  pub past : (at l place).moment ≤ m
  pub low : m ≤ (at l place).moment + f + a.low
  pub high : (at l place).moment + f ≤ m + a.high
  pub most : f ≤ a.most

pub in_refresh_law : (e : Endpoint) → is_fail_safe e ≡ false → is_state e.state Refresh ≡ true
in_refresh_law e h = and_left (is_state e.state Refresh) e.value.taken
    (not-false (is_state e.state Refresh && e.value.taken) h)

pub is_taken : (e : Endpoint) → is_fail_safe e ≡ false → e.value.taken ≡ true
is_taken e h = and_right (is_state e.state Refresh) e.value.taken
    (not-false (is_state e.state Refresh && e.value.taken) h)

front_padded : (b : List ℕ) (n : ℕ) → length b ≡ n → n ≤ 100 → take n (padded_of b) ≡ b
front_padded b n e h =
    ap (λ (x : List ℕ). take n (x ++ drop (length b) (replicate 100 0))) (take_all 100 b (omega arith))
    ∙ take_at b (drop (length b) (replicate 100 0)) n e

pub shown_is : (e : Endpoint) (b : List ℕ) → is_fail_safe e ≡ false → Holds e.settings e.value (Some b)
    → shown_of e ≡ b
shown_is e b h v =
    ap (λ (x : Bool). take (show_width e.settings) (held_or x e.value.bytes)) h
    ∙ ap (take (show_width e.settings)) v.1
    ∙ front_padded b (show_width e.settings) v.2 (show_width_le e.settings)

-- a value shown at clock reading t and moment m
pub held_shown : (e : Endpoint) (l : List Mark) (P : Mark → Type 0) (kind took t m : ℕ) (a b : Margin)
    (v : Option (List ℕ)) (h : ℕ) → is_fail_safe e ≡ false → Holds e.settings e.value v → took ≡ h → Held P l h
    → ((x : Mark) → P x → (x.who ≡ kind) × (x.code ≡ 255))
    → ValueOf l h m (e.value.age + (t - e.since)) a v → Each (λ x. x.moment ≤ m) l → Within a b
    → ShownAt l kind took m (held_age e t) b (shown_of e)
held_shown e l P kind took t m a b None h n o q g y w past x = absurd (true≢false (sym (is_taken e n) ∙ o))
held_shown e l P kind took t m a b (Some v) zero n o q g y w past x = absurd w
held_shown e l P kind took t m a b (Some v) (suc j) n o q g y w past x =
    let f : held_age e t ≡ e.value.age + (t - e.since) = omega arith in
    let z = y (at l j) g.fits in
    record {
      place = j;
      held = q;
      there = g.there;
      who = z.0;
      code = z.1;
      body = w.body ∙ sym (shown_is e v n o);
      past = past j g.there;
      low = omega arith;
      high = omega arith;
      most = omega arith;
    }
