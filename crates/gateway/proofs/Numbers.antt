-- The number that a call answers is that of the result that its contract names.
use mathlib.Core.Path.{◌≡◌, refl, ap}
use mathlib.Core.Bool.{Bool, true, false, cond}
use lib.Dec.{ltb}
use lib.ListN.{length}
use Rattle.endpoint.specs.Answers.{number_of}
use Rattle.settings.specs.Lists.{count_of, is_list}
use Rattle.gateway.specs.declared.Called.{Called}
use Rattle.gateway.specs.declared.Told.{Told}
use Rattle.gateway.specs.Loading.{Loaded}
use Rattle.gateway.specs.Numbers.{Numbers}

of_answer : (b s : Bool) (x y z : Loaded) → number_of x.answer ≡ 2 → number_of y.answer ≡ 0 → number_of z.answer ≡ 18
    → number_of (cond b (cond s x y) z).answer ≡ cond b (cond s 2 0) 18
of_answer true true x y z h k l = h
of_answer true false x y z h k l = k
of_answer false s x y z h k l = l

pub numbers : Numbers
numbers = record {
  loaded = λ number ws rs. of_answer (is_list ws) (ltb (length rs) (count_of ws)) _ _ _ refl refl refl;
  plain = λ r rs c s. ap (λ (x : Called). number_of x.answer) s.told;
  lent = λ r rs out out' c s. ap (λ (x : Called). number_of x.answer) s.told;
  plain_told = λ r k k' rs t s. ap (λ (x : Told). x.number) s.told;
  lent_told = λ r k k' rs out out' t s. ap (λ (x : Told). x.number) s.told;
}
