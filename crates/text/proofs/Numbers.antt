-- A number read digit by digit: one digit more, or a digit after which no number follows.
use Rattle.std.proofs.Common.{◌≡◌, ℕ, suc, ◌+◌, ◌-◌, ◌*◌, ◌<◌, ◌≤◌, Bool, true, false, cond, ◌&&◌, ltb, List, [], ◌∷◌, length, get_or, drop, sym, refl, ap, ◌∙◌, true≢false, add-one, arith, drop_of_length-le, drop-cons, ltb-false, le-ltb, lt-ltb, Some, None}
use mathlib.Core.Bool.{and-false}
use mathlib.Mathlib.Data.Bool.Basic.{and_elim_left}
use Rattle.std.specs.Char.{is_ascii_digit}
use Rattle.std.specs.List.{list_all}
use Rattle.text.specs.Reading.{value_from, number_from}

-- ---- what an answer tells of its test
is_some : (p : Bool) (a x : ℕ) → cond p (Some a) None ≡ Some x → (p ≡ true) × (a ≡ x)
is_some true a x h = (refl, cc)
is_some false a x h = absurd cc

is_none : (p : Bool) (a : ℕ) → cond p (Some a) None ≡ None → p ≡ false
is_none true a h = absurd cc
is_none false a h = refl

-- ---- one digit more
grows : (v : ℕ) (s : List ℕ) → v ≤ value_from v s
unfolding value_from
grows v [] = omega arith
grows v (b ∷ s) = omega (arith, grows (10 * v + (b - 48)) s)

stays : (d r q t : Bool) → (d && true && q) ≡ false → (q ≡ false → t ≡ false) → (d && r && t) ≡ false
stays true r true t h g = absurd (true≢false h)
stays true r false t h g = ap (λ (x : Bool). r && x) (g refl) ∙ and-false r
stays false r q t h g = refl

number_turn : (v b : ℕ) (s : List ℕ) (x : ℕ) → number_from v (b ∷ []) ≡ Some x → number_from v (b ∷ s) ≡ number_from x s
unfolding number_from value_from
number_turn v b s x h =
    let m : ℕ = 10 * v + (b - 48) in
    let f = is_some (is_ascii_digit b && true && ltb m 18446744073709551616) m x h in
    let e = and_elim_left (is_ascii_digit b) true (and_elim_left (is_ascii_digit b && true) _ f.0) in
    λ i. cond (e i && list_all is_ascii_digit s && ltb (value_from (f.1 i) s) 18446744073709551616)
    (Some (value_from (f.1 i) s)) None

number_stop : (v b : ℕ) (s : List ℕ) → number_from v (b ∷ []) ≡ None → number_from v (b ∷ s) ≡ None
unfolding number_from value_from
number_stop v b s h =
    let m : ℕ = 10 * v + (b - 48) in
    let q : Bool = ltb m 18446744073709551616 in
    let f = is_none (is_ascii_digit b && true && q) m h in
    let n : ℕ = value_from m s in
    let e = stays (is_ascii_digit b) (list_all is_ascii_digit s) q (ltb n 18446744073709551616) f
    (λ (g : q ≡ false). le-ltb n 18446744073709551616
    (omega (arith, ltb-false m 18446744073709551616 g, grows m s))) in
    ap (λ (p : Bool). cond p (Some (value_from m s)) None) e

pub step_on : (v : ℕ) (w : List ℕ) (i x : ℕ) → i < length w → number_from v (get_or w i 0 ∷ []) ≡ Some x
    → number_from v (drop i w) ≡ number_from x (drop (i + 1) w)
step_on v w i x h e =
    ap (number_from v) (drop-cons w i 0 h)
    ∙ number_turn v (get_or w i 0) (drop (suc i) w) x e
    ∙ ap (λ (n : ℕ). number_from x (drop n w)) (sym (add-one i))

pub step_off : (v : ℕ) (w : List ℕ) (i : ℕ) → i < length w → number_from v (get_or w i 0 ∷ []) ≡ None
    → number_from v (drop i w) ≡ None
step_off v w i h e = ap (number_from v) (drop-cons w i 0 h) ∙ number_stop v (get_or w i 0) (drop (suc i) w) e

pub number_end : (v : ℕ) (s : List ℕ) (i : ℕ) → length s ≤ i → v < 18446744073709551616 → number_from v (drop i s) ≡ Some v
unfolding number_from value_from
number_end v s i h k = rw (drop_of_length-le s h, lt-ltb v 18446744073709551616 k)
