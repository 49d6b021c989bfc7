-- A number that is printed is read back.
use Rattle.std.proofs.Common.{rules, ◌≡◌, ℕ, zero, suc, ◌<◌, ◌&&◌, ◌^◌, Bool, true, false, eqb, ltb, List, length, get_or, decimal, Some, refl, ap, ◌∙◌, arith, lt-ltb, ne_eqb}
use mathlib.Core.Bool.{and-false}
use Rattle.std.specs.Char.{is_ascii_digit}
use Rattle.std.specs.List.{list_all}
use Rattle.std.proofs.lemmas.Fmt.{decimal_digit, decimal_nonempty, first_decimal, digits_decimal, digits_value-decimal}
use Rattle.std.proofs.lemmas.Str.Parse.{IsNumeralModel, numerals_by_fold}
use Rattle.text.specs.Reading.{value_from, number_from, number_of}

own : IsNumeralModel (λ s. list_all is_ascii_digit s ≡ true) (value_from 0)
unfolding value_from
own = numerals_by_fold _ (search rules) value_from (search rules)

no_zero : (n : ℕ) → n < 2 ^ 64 → (ltb 1 (length (decimal n)) && eqb (get_or (decimal n) 0 0) 48) ≡ false
no_zero zero h = rw (decimal_digit 0 (omega arith)) refl
no_zero (suc m) h =
    let s : List ℕ = decimal (suc m) in
    ap (λ (p : Bool). ltb 1 (length s) && p) (ne_eqb (get_or s 0 0) 48 (λ e. omega (arith, first_decimal (suc m) (omega arith) h)))
    ∙ and-false (ltb 1 (length s))

pub number_back : (n : ℕ) → n < 18446744073709551616 → number_of (decimal n) ≡ Some n
unfolding number_of number_from
number_back n h =
    let some = ne_eqb (length (decimal n)) 0 (λ e. omega (arith, decimal_nonempty n h)) in
    rw (some, no_zero n h, digits_decimal own n h, digits_value-decimal own n h, lt-ltb n _ h) refl
