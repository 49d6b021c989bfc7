-- Lent outputs: what a list holds once others were put into it.
use Rattle.std.specs.Prelude.{cond, List, ◌++◌, ℕ, ◌+◌, leb, length, take, drop}

-- `out` with the bytes in place of its own from k on
unfoldable pub put : List ℕ → ℕ → List ℕ → List ℕ
put out k bytes = take k out ++ bytes ++ drop (k + length bytes) out

-- the same where all of them fit; else `out` stays as it is
unfoldable pub put_whole : List ℕ → ℕ → List ℕ → List ℕ
put_whole out k bytes = cond (leb (k + length bytes) (length out)) (put out k bytes) out

-- how many of the bytes then stand in `out` from its front on: all, or none
abbrev pub count_within : List ℕ → List ℕ → ℕ
count_within bytes out = cond (leb (length bytes) (length out)) (length bytes) 0

-- the bytes over the front of `out`; the rest stays
unfoldable pub over : List ℕ → List ℕ → List ℕ
over bytes out = bytes ++ drop (length bytes) out
