-- Lines of an input that is read a buffer at a time: what is kept of the line, and how far the input was read.
use Rattle.std.specs.Prelude.{ℕ, ◌+◌, ◌-◌, ◌%◌, ◌^◌, Bool, false, cond, ◌&&◌, List, length, take, drop, ◌==◌, nat_lt}
use Rattle.std.specs.List.{before_first, position_or_len}
use Rattle.text.specs.declared.lines.Input.{Input}

-- before anything was read
abbrev pub first_input : Input
first_input = record { from = 0; to = 0; length = 0; place = 1; whole = false; ended = false }

-- after a whole line the next one, of which nothing has come
abbrev pub current_of : Input → Input
current_of i = record {
  from = i.from;
  to = i.to;
  length = cond i.whole 0 i.length;
  place = cond i.whole ((i.place + 1) % 2 ^ 64) i.place;
  whole = false;
  ended = i.ended;
}

-- n bytes were read; where there are none, the input has ended, and its last line with it
abbrev pub refilled_of : Input → ℕ → Input
refilled_of i n = record {
  from = 0;
  to = n;
  length = (current_of i).length;
  place = (current_of i).place;
  whole = n == 0 && nat_lt 0 (current_of i).length;
  ended = (n == 0);
}

-- the bytes that are still to be taken
abbrev pub left_of : Input → List ℕ → List ℕ
left_of i buffer = drop i.from (take i.to buffer)

-- what a line with room for `most` bytes keeps of them: those before the first newline
abbrev pub kept_of : Input → List ℕ → ℕ → List ℕ
kept_of i left most = take (most - (current_of i).length) (before_first (λ b. b == 10) left)

-- whether a newline is among them
abbrev pub has_newline : List ℕ → Bool
has_newline left = nat_lt (position_or_len (λ b. b == 10) left) (length left)

-- they are taken, and the newline after them, which ends the line
abbrev pub taken_of : Input → List ℕ → ℕ → Input
taken_of i left most = record {
  from = i.from + position_or_len (λ b. b == 10) left + cond (has_newline left) 1 0;
  to = i.to;
  length = (current_of i).length + length (kept_of i left most);
  place = (current_of i).place;
  whole = has_newline left;
  ended = i.ended;
}
