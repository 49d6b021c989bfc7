-- What a right list tells: its connections are at most 64, and each is right.
use mathlib.Core.Path.{◌≡◌}
use mathlib.Core.Bool.{Bool, true, ◌&&◌}
use mathlib.Core.List.{List}
use mathlib.Mathlib.Data.Bool.Basic.{and_elim_left, and_elim_right}
use Prim.Native.Nat.{ℕ, ◌%◌, ◌≤◌}
use lib.Dec.{eqb, leb}
use lib.ListN.{length}
use borrow.Author.Tests.{leb-true}
use Rattle.settings.specs.Lists.{count_of, are_connections, is_list}

module _ (ws : List ℕ) (h : is_list ws ≡ true) where
  n : ℕ
  n = count_of ws

  some : Bool
  some = eqb (length ws % 7) 0 && leb 1 n

  pub count_le : count_of ws ≤ 64
  unfolding is_list n some
  count_le = leb-true n 64 (and_elim_right some (leb n 64) (and_elim_left (some && leb n 64) (are_connections ws n) h))

  pub are_connections_law : are_connections ws (count_of ws) ≡ true
  unfolding is_list n some
  are_connections_law = and_elim_right (some && leb n 64) (are_connections ws n) h
