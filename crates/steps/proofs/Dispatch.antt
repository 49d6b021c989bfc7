-- Which of its parts a delivery comes to.
use mathlib.Core.Path.{◌≡◌, sym, ap, ◌∙◌}
use Rattle.std.specs.Prelude.{Err}
use mathlib.Core.Bool.{Bool, true, false, cond, beq}
use mathlib.Core.List.{List}
use Prim.Native.Nat.{ℕ}
use Rattle.frame.specs.declared.Command.TheVariants as K
use Rattle.frame.specs.declared.Fields.{Fields}
use Rattle.frame.specs.Control.{code_of, command_of, is}
use Rattle.frame.specs.declared.Command.{Command}
use Rattle.frame.proofs.Digits.{command_of_code}
use borrow.Author.Tests.{eqb-true}
use Rattle.endpoint.specs.Endpoint.{Endpoint}
use Rattle.endpoint.specs.declared.Reason.TheVariants as R
use Rattle.endpoint.specs.declared.Refusal.TheVariants.{Dropped}
use Rattle.steps.specs.Calls.{dropped}
use Rattle.steps.specs.Deliveries.{take_refresh, take_request, take_reply, deliver_of}

pub cond_true : {A : Type 0} (b : Bool) (x y : A) → b ≡ true → cond b x y ≡ x
cond_true b x y h = rw h

pub cond_false : {A : Type 0} (b : Bool) (x y : A) → b ≡ false → cond b x y ≡ y
cond_false b x y h = rw h

-- a command that is another is the other
pub is_command : (k m : Command) → is k m ≡ true → k ≡ m
is_command k m h = sym (command_of_code k) ∙ ap command_of (eqb-true (code_of k) (code_of m) h) ∙ command_of_code m

module _ (e : Endpoint) (t : ℕ) (f : Fields) (body : List ℕ) where
  pub deliver_echo : beq f.application e.settings.slave ≡ true
      → deliver_of e t f body ≡ dropped e (Err (Dropped R.Echo))
  deliver_echo h = cond_true _ _ _ h

  module _ (h : beq f.application e.settings.slave ≡ false) where
    pub deliver_refresh : is f.command K.Refresh ≡ true → deliver_of e t f body ≡ take_refresh e t f.subconnection f.timestamp body
    deliver_refresh k = cond_false _ _ _ h ∙ cond_true _ _ _ k

    pub deliver_request : is f.command K.Refresh ≡ false → e.settings.slave ≡ true
        → deliver_of e t f body ≡ take_request e t f body
    deliver_request k s = cond_false _ _ _ h ∙ cond_false _ _ _ k ∙ cond_true _ _ _ s

    pub deliver_reply : is f.command K.Refresh ≡ false → e.settings.slave ≡ false
        → deliver_of e t f body ≡ take_reply e t f body
    deliver_reply k s = cond_false _ _ _ h ∙ cond_false _ _ _ k ∙ cond_false _ _ _ s
