-- Pieces that a writer puts one after the other are one piece.
use Rattle.std.proofs.Common.{◌≡◌, ℕ, zero, suc, ◌+◌, ◌-◌, ◌/◌, ◌%◌, ◌^◌, decimal, ◌<◌, ◌≤◌, true, false, leb, List, [], ◌∷◌, ◌++◌, length, get_or, take, drop, set, sym, refl, ap, subst, ◌∙◌, add-zero, add-one, append-nil, append_assoc, arith, length-append, length-drop, length-take-le, take-append-drop, take-suc, le-leb}
use Rattle.std.proofs.lemmas.Fmt.{decimal_step}
use lib.Seq.{sets-eq, drop-drop}
use borrow.Author.Tests.{lt-leb}
use Rattle.words.specs.Output.{put, over}
use Rattle.words.proofs.Put.{then, put_over}
use Rattle.text.specs.declared.put.Writer.{Writer}
use Rattle.text.specs.Printing.{last_digits, hex_digit, hex_of, hex_text, Puts, Written}

-- ---- one piece
pub put_one : (o : List ℕ) (k a : ℕ) → k + 1 ≤ length o → set o k a ≡ put o k (a ∷ [])
unfolding put
put_one o k a h = sets-eq (a ∷ []) o k h

pub put_none : (o : List ℕ) (k : ℕ) → put o k [] ≡ o
unfolding put
put_none o k = simp (append-nil, add-zero) (take-append-drop k o)

-- a copy t of s, back in its place
pub put_part : (o : List ℕ) {s t : List ℕ} (k n : ℕ) → t ≡ s → n ≡ length s → take k o ++ (t ++ drop n (drop k o)) ≡ put o k s
unfolding put
put_part o {s} k n f e = rw (f, e, drop-drop, append_assoc)

pub length_part : (o : List ℕ) {s t : List ℕ} (k n : ℕ) → t ≡ s → n ≡ length s → k + n ≤ length o
    → length (take k o ++ (t ++ drop n (drop k o))) ≡ length o
length_part o {s} k n f e h = rw f (simp (length-append, length-drop, length-take-le k o (omega arith)) (omega arith))

-- ---- a row of pieces
pub nothing : {a : Writer} → Puts 0 [] a a
nothing {a} = record { bytes = sym (put_none a.out.now a.at); end = sym (add-zero a.at); short = omega arith; size = refl; same = refl }

pub within : {m n : ℕ} {s : List ℕ} {a b : Writer} → Puts m s a b → m ≤ n → Puts n s a b
within p h = record { bytes = p.bytes; end = p.end; short = omega (arith, p.short, h); size = p.size; same = p.same }

pub puts_as : {m : ℕ} {s t : List ℕ} {a b : Writer} → Puts m s a b → s ≡ t → Puts m t a b
puts_as {m} {s} {t} {a} {b} p e = subst (λ (l : List ℕ). Puts m l a b) e p

pub follow : {m n : ℕ} {s t : List ℕ} {a b c : Writer} → Puts m s a b → Puts n t b c → a.at + m ≤ length a.out.now
    → Puts (m + n) (s ++ t) a c
follow {m} {n} {s} {t} {a} {b} {c} p q h = record {
  bytes = then a.out.now a.at s t b.at p.bytes q.bytes p.end (omega (arith, p.end, p.short, h));
  end = simp length-append (omega (arith, p.end, q.end));
  short = simp length-append (omega (arith, p.short, q.short));
  size = q.size ∙ p.size;
  same = q.same ∙ p.same;
}

-- ---- digits
pub length_last : (w n : ℕ) → length (last_digits w n) ≡ w
unfolding last_digits
length_last zero n = refl
length_last (suc w) n =
    let e = length_last w (n / 10) in
    length-append (last_digits w (n / 10)) _ ∙ omega (arith, e)

pub last_none : {a : Writer} (w n : ℕ) → w ≤ 0 → Puts w (last_digits w n) a a
unfolding last_digits
last_none zero n h = nothing
last_none (suc w) n h = absurd (omega arith)

pub last_more : {a b : Writer} (w n : ℕ) → 0 < w
    → Puts (w - 1 + 1) (last_digits (w - 1) (n / 10) ++ ((48 + n % 10) ∷ [])) a b → Puts w (last_digits w n) a b
unfolding last_digits
last_more zero n h p = absurd (omega arith)
last_more (suc w) n h p =
    let e : suc w - 1 ≡ w = omega arith in
    within (rw e at p) (omega arith)

pub length_more : (n : ℕ) → 10 ≤ n → n < 2 ^ 64 → length (decimal n) ≡ length (decimal (n / 10)) + 1
length_more n h k = ap length (decimal_step n h k) ∙ length-append (decimal (n / 10)) _

hex_append : (s t : List ℕ) → hex_of (s ++ t) ≡ hex_of s ++ hex_of t
unfolding hex_of
hex_append [] t = refl
hex_append (b ∷ s) t = ap (λ (l : List ℕ). hex_digit (b / 16) ∷ hex_digit (b % 16) ∷ l) (hex_append s t)

-- the digits of one byte more
pub hex_more : (s : List ℕ) (i : ℕ) → i < length s
    → hex_of (take i s) ++ (hex_digit (get_or s i 0 / 16) ∷ []) ++ (hex_digit (get_or s i 0 % 16) ∷ []) ≡ hex_of (take (i + 1) s)
unfolding hex_of
hex_more s i h =
    let b = get_or s i 0 in
    append_assoc (hex_of (take i s)) (hex_digit (b / 16) ∷ []) _
    ∙ sym (ap (λ (n : ℕ). hex_of (take n s)) (add-one i) ∙ ap hex_of (take-suc s i 0 h) ∙ hex_append (take i s) (b ∷ []))

pub hex_none : (s : List ℕ) → length s ≡ 0 → hex_text s ≡ 45 ∷ []
unfolding hex_text
hex_none [] h = refl
hex_none (b ∷ s) h = absurd (omega arith)

pub hex_some : (s : List ℕ) → (length s ≡ 0 → ⊥) → hex_text s ≡ hex_of s
unfolding hex_text
hex_some [] h = absurd (h refl)
hex_some (b ∷ s) h = refl

-- ---- the whole outcome
pub written_none : {o : List ℕ} (room : ℕ) (text : List ℕ) → length o < room → Written room text o o 0
unfolding over
written_none {o} room text h =
    let e : leb room (length o) ≡ false = lt-leb room (length o) h in
    record { bytes = rw e; count = rw e; within = omega arith }

-- what is left of an output that a writer a began with, where the writer b is what has become of it
pub written : {room : ℕ} {o text o₁ : List ℕ} {a b : Writer} → Puts room text a b → (a.out.now ≡ o) × (a.at ≡ 0)
    → (a.out.ghost_name ≡ b.out.ghost_name → o₁ ≡ b.out.now) → room ≤ length o → Written room text o o₁ b.at
unfolding over
written {room} {o} {text} {o₁} {a} {b} p e f h =
    let t : leb room (length o) ≡ true = le-leb room (length o) h in
    let x : o₁ ≡ put o 0 text = f (sym p.same) ∙ p.bytes ∙ λ i. put (e.0 i) (e.1 i) text in
    let y : b.at ≡ length text = omega (arith, p.end, e.1) in
    record { bytes = rw t (x ∙ put_over o text); count = rw t y; within = omega (arith, y, p.short, h) }
