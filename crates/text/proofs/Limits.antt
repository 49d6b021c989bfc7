-- What a line sets for the calls after it is at most what it may be.
use Rattle.std.proofs.Common.{◌≡◌, ℕ, ◌≤◌, Bool, true, false, cond, ◌&&◌, leb, ltb, Option, Some, None, List, length, refl, subst, leb-true}
use Rattle.std.specs.Option.{option_map, option_and_then}
use Rattle.text.specs.declared.Act.{Act}
use Rattle.text.specs.declared.Parameter.{Parameter}
use Rattle.text.specs.declared.Head.{Head}
use Rattle.text.specs.declared.Line.{Line}
use Rattle.text.specs.declared.Line.TheVariants as L
use Rattle.text.specs.declared.parse.Name.{Name}
use Rattle.text.specs.declared.parse.Name.TheVariants.{Load, Timed, Data, Invoke, Deliver, Check, Set}
use Rattle.text.specs.Reading.{word_in, rest_of, is_frame, is_word, is_load}
use Rattle.text.specs.Calls.{most_of, is_data, timed_in, data_at, data_in, invoke_at, invoke_in, deliver_at, deliver_in}
use Rattle.text.specs.Calls.{check_in, set_at, set_in, call_of, is_comment, name_of, line_of}

-- other lines set nothing
abbrev Within : Option Line → Type 0
Within None = Unit {0}
Within (Some L.Load) = Unit {0}
Within (Some (L.Timed act head)) = Unit {0}
Within (Some (L.Data kind head start)) = Unit {0}
Within (Some (L.Invoke head word start)) = Unit {0}
Within (Some (L.Deliver clock start)) = Unit {0}
Within (Some (L.Check start)) = Unit {0}
Within (Some (L.Set p n)) = n ≤ most_of p
Within (Some L.Nothing) = Unit {0}

either : (b : Bool) (x y : Option Line) → (b ≡ true → Within x) → Within y → Within (cond b x y)
either true x y h k = h refl
either false x y h k = k

follows : {A : Type 0} (f : A → Option Line) → ((x : A) → Within (f x)) → (o : Option A) → Within (option_and_then f o)
follows f h None = tt
follows f h (Some x) = h x

timed_within : (act : Act) (o : Option Head) → Within (option_map (L.Timed act) o)
timed_within act None = tt
timed_within act (Some head) = tt

name_within : (s : List ℕ) (name : Name) → Within (call_of s name)
unfolding timed_in data_in invoke_in deliver_in check_in set_in
name_within s Load = either (is_load s) (Some L.Load) None (λ _. tt) tt
name_within s (Timed act) = timed_within act _
name_within s (Data kind) =
    let t = rest_of (rest_of (rest_of s)) in
    follows (data_at kind s t) (λ head. either (is_data kind t) _ None (λ _. tt) tt) _
name_within s Invoke =
    let t = rest_of (rest_of (rest_of s)) in
    follows (invoke_at s t) (λ head. either (is_word (word_in t) && is_frame (rest_of t)) _ None (λ _. tt) tt) _
name_within s Deliver =
    let t = rest_of (rest_of s) in
    follows (deliver_at s t) (λ clock. either (is_frame t) _ None (λ _. tt) tt) _
name_within s Check = either (is_frame (rest_of s)) _ None (λ _. tt) tt
name_within s (Set p) = follows (set_at p) (λ n. either (leb n (most_of p)) _ None (leb-true n (most_of p)) tt) _

line_within : (s : List ℕ) → Within (line_of s)
unfolding line_of
line_within s =
    either (ltb 4096 (length s)) None _ (λ _. tt)
    (either (is_comment s) (Some L.Nothing) _ (λ _. tt) (follows (call_of s) (name_within s) (name_of (word_in s))))

pub set_within : (s : List ℕ) (p : Parameter) (n : ℕ) → line_of s ≡ Some (L.Set p n) → n ≤ most_of p
set_within s p n e = subst Within e (line_within s)
