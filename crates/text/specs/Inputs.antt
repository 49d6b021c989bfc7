-- An input that is read on: a line is taken from the buffer, or the buffer is filled anew.
use Rattle.std.specs.Prelude.{◌≡◌, ℕ, ◌≤◌, List, take, Option}
use Rattle.std.specs.Io.KnownBytes.{Consumes, IsAtEnd}
use Rattle.words.specs.Output.{put}
use Rattle.text.specs.declared.lines.Lines.{Lines}
use Rattle.text.specs.Lines.{current_of, refilled_of, left_of, kept_of, taken_of}

-- up to the end of a line
abbrev pub lines_taken : Lines → Lines
lines_taken l = record l {
  input = taken_of l.input (left_of l.input l.buffer) 4097;
  line = put l.line (current_of l.input).length (kept_of l.input (left_of l.input l.buffer) 4097);
}

-- the n bytes now in the buffer are those that the reader had, where these are known; where there are none, it has ended
pub record Refills (n : ℕ) (before after : Lines) (old new : Option (List ℕ)) : Type 0 where
  pub input : after.input ≡ refilled_of before.input n
  pub line : after.line ≡ before.line
  pub within : n ≤ 4096
  pub bytes : Consumes old new (take n after.buffer)
  pub end : n ≡ 0 → IsAtEnd new
