-- The words of fields that can be written have their frame; so what `write_frame` says is what `write_head` says of them.
use mathlib.Core.Path.{◌≡◌, ap, ◌∙◌}
use mathlib.Core.Bool.{true}
use mathlib.Core.List.{List}
use Prim.Native.Nat.{ℕ, ◌%◌, ◌^◌}
use native.Mathlib.Omega.{arith}
use lib.ListN.{length}
use Rattle.words.specs.Output.{over}
use Rattle.frame.specs.declared.Fields.{Fields}
use Rattle.frame.specs.Control.{control_of}
use Rattle.frame.specs.Writing.{time_of, carry_of, head_bytes, with_check_word, twice, sub_bytes, frame_bytes}
use Rattle.frame.specs.Writing.{is_writable, written_of, WriteSays}
use Rattle.frame.specs.Writing.{head_of, frame_of, written_from, HeadSays}
use Rattle.frame.proofs.Lengths.{can_be_written}

pub head_frame : (f : Fields) (body : List ℕ) → is_writable f (length body) ≡ true
    → frame_of (head_of f) body ≡ frame_bytes f body
unfolding frame_of frame_bytes sub_bytes
head_frame f body w =
    let c = can_be_written f (length body) w in
    let e : carry_of f % 2 ^ 32 ≡ carry_of f = omega arith in
    ap (λ (v : ℕ). twice (with_check_word (head_bytes (control_of f) f.connection (time_of f) v body))) e

module _ (f : Fields) (body out : List ℕ) where
  same_written : is_writable f (length body) ≡ true
      → written_from (head_of f) body (length out) ≡ written_of f body (length out)
  unfolding written_from written_of
  same_written w = rw (w, (can_be_written f (length body) w).body, head_frame f body w)

  pub written : {out' : List ℕ} {count : ℕ} → is_writable f (length body) ≡ true
      → HeadSays (head_of f) body out out' count → WriteSays f body out out' count
  written w s = record {
    counted = s.counted ∙ ap length (same_written w);
    left = s.left ∙ ap (λ (x : List ℕ). over x out) (same_written w);
  }
