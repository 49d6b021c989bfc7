-- The call that a line is, by the word that it begins with.
use Rattle.std.specs.Prelude.{ℕ, ◌-◌, Bool, cond, ◌&&◌, ◌||◌, List, [], ◌∷◌, length, ◌==◌, nat_le, nat_lt, slice_index, codes, Option, Some, None, option_and_then}
use Rattle.std.specs.Borrow.{Bor}
use Rattle.std.specs.Option.{option_map}
use Rattle.std.specs.Str.{bytes_eq}
use Rattle.text.specs.declared.Act.{Act}
use Rattle.text.specs.declared.Act.TheVariants as A
use Rattle.text.specs.declared.Kind.{Kind}
use Rattle.text.specs.declared.Kind.TheVariants as K
use Rattle.text.specs.declared.Head.{Head}
use Rattle.text.specs.declared.Line.{Line}
use Rattle.text.specs.declared.Line.TheVariants as L
use Rattle.text.specs.declared.Parameter.{Parameter}
use Rattle.text.specs.declared.Parameter.TheVariants as P
use Rattle.text.specs.declared.parse.Name.{Name}
use Rattle.text.specs.declared.parse.Name.TheVariants.{Load, Timed, Data, Invoke, Deliver, Check, Set}
use Rattle.text.specs.Reading.{word_in, rest_of, number_of, is_hex, is_frame, is_word, word_at, is_load}

-- ---- the name that a word is
-- the words that begin a call, and what each names
unfoldable pub names : List (List ℕ × Name)
names =
    (codes "load", Load)
    ∷ (codes "deliver", Deliver)
    ∷ (codes "check", Check)
    ∷ (codes "room", Set P.Room)
    ∷ (codes "records", Set P.Records)
    ∷ (codes "session", Set P.Session)
    ∷ (codes "send", Data K.Value)
    ∷ (codes "invoke", Invoke)
    ∷ (codes "result", Data K.Result)
    ∷ (codes "record", Data K.Record)
    ∷ (codes "writeerr", Data K.WriteError)
    ∷ (codes "start", Timed A.Start)
    ∷ (codes "stop", Timed A.Stop)
    ∷ (codes "restart", Timed A.Restart)
    ∷ (codes "show", Timed A.Show)
    ∷ (codes "notready", Timed A.NotReady)
    ∷ (codes "ready", Timed A.Ready)
    ∷ (codes "noresult", Timed A.NoResult)
    ∷ (codes "norecord", Timed A.NoRecord)
    ∷ (codes "readerr", Timed A.ReadError)
    ∷ []

-- by the first entry that the word is
unfoldable pub name_in : List (List ℕ × Name) → List ℕ → Option Name
name_in [] w = None
name_in ((word, name) ∷ l) w = cond (bytes_eq w word) (Some name) (name_in l w)

unfoldable pub name_of : List ℕ → Option Name
name_of w = name_in names w

-- the code has each word behind a reference
abbrev pub entry_of : Bor (List ℕ) × Name → List ℕ × Name
entry_of v = (v.0.now, v.1)

-- ---- what follows it
-- CLOCK below 2^64 and ENTRY below 2^32
abbrev pub head_of : Option ℕ → Option ℕ → Option Head
head_of (Some clock) (Some entry) = cond (nat_lt entry 4294967296) (Some (record { clock = clock; entry = entry })) None
head_of (Some clock) None = None
head_of None entry = None

-- a value has any count of bytes, the others at most 512
abbrev pub is_data : Kind → List ℕ → Bool
is_data K.Value t = is_hex t
is_data K.Result t = is_frame t
is_data K.Record t = is_frame t
is_data K.WriteError t = is_frame t

-- from 0 on
abbrev pub most_of : Parameter → ℕ
most_of P.Room = 256
most_of P.Records = 70
most_of P.Session = 65535

-- ---- what follows a name: r is the line s after its first word. The last word of a call is all that is left, so that
-- none may follow it.
-- the place of that word in the line
abbrev pub place_of : List ℕ → List ℕ → ℕ
place_of s t = length s - length t

-- CLOCK ENTRY, and more words after them
unfoldable pub head_in : List ℕ → Option Head
head_in r = head_of (number_of (word_in r)) (number_of (word_in (rest_of r)))

-- CLOCK ENTRY
unfoldable pub timed_in : Act → List ℕ → Option Line
timed_in act r = option_map (L.Timed act) (head_of (number_of (word_in r)) (number_of (rest_of r)))

-- HEX, which are t, after CLOCK ENTRY
abbrev pub data_at : Kind → List ℕ → List ℕ → Head → Option Line
data_at kind s t head = cond (is_data kind t) (Some (L.Data kind head (place_of s t))) None

-- CLOCK ENTRY HEX
unfoldable pub data_in : Kind → List ℕ → List ℕ → Option Line
data_in kind s r = option_and_then (data_at kind s (rest_of (rest_of r))) (head_in r)

-- WORD HEX, which are t, after CLOCK ENTRY
abbrev pub invoke_at : List ℕ → List ℕ → Head → Option Line
invoke_at s t head =
    cond (is_word (word_in t) && is_frame (rest_of t))
    (Some (L.Invoke head (word_at s (place_of s t)) (place_of s (rest_of t)))) None

-- CLOCK ENTRY WORD HEX
unfoldable pub invoke_in : List ℕ → List ℕ → Option Line
invoke_in s r = option_and_then (invoke_at s (rest_of (rest_of r))) (head_in r)

-- HEX, which are t, after CLOCK
abbrev pub deliver_at : List ℕ → List ℕ → ℕ → Option Line
deliver_at s t clock = cond (is_frame t) (Some (L.Deliver clock (place_of s t))) None

-- CLOCK HEX
unfoldable pub deliver_in : List ℕ → List ℕ → Option Line
deliver_in s r = option_and_then (deliver_at s (rest_of r)) (number_of (word_in r))

-- HEX
unfoldable pub check_in : List ℕ → List ℕ → Option Line
check_in s r = cond (is_frame r) (Some (L.Check (place_of s r))) None

-- N, at most what the parameter may be
abbrev pub set_at : Parameter → ℕ → Option Line
set_at p n = cond (nat_le n (most_of p)) (Some (L.Set p n)) None

unfoldable pub set_in : Parameter → List ℕ → Option Line
set_in p r = option_and_then (set_at p) (number_of r)

abbrev pub call_of : List ℕ → Name → Option Line
call_of s Load = cond (is_load s) (Some L.Load) None
call_of s (Timed act) = timed_in act (rest_of s)
call_of s (Data kind) = data_in kind s (rest_of s)
call_of s Invoke = invoke_in s (rest_of s)
call_of s Deliver = deliver_in s (rest_of s)
call_of s Check = check_in s (rest_of s)
call_of s (Set p) = set_in p (rest_of s)

-- `#` begins a comment; so is an empty line
abbrev pub is_comment : List ℕ → Bool
is_comment s = length s == 0 || slice_index s 0 == 35

-- what a line of at most 4,096 bytes is; nothing where it has any other form
unfoldable pub line_of : List ℕ → Option Line
line_of s =
    cond (nat_lt 4096 (length s)) None
    (cond (is_comment s) (Some L.Nothing) (option_and_then (call_of s) (name_of (word_in s))))
