-- How old a shown value can be: a line of text for a connection.
use Rattle.std.specs.Prelude.{ℕ, ◌*◌, ◌/◌, Bool, cond, List, ◌++◌, codes, decimal}
use Rattle.std.specs.Int.{to_be_bytes, w32}
use Rattle.endpoint.specs.declared.Settings.{Settings}
use Rattle.endpoint.specs.Time.{bound_of}
use Rattle.text.specs.Printing.{last_digits, hex_of}

-- ticks in milliseconds, three digits after the point: a tick is 128 microseconds
unfoldable pub milliseconds_text : ℕ → List ℕ
milliseconds_text n = decimal (128 * n / 1000) ++ codes "." ++ last_digits 3 (128 * n)

-- the same beside the ticks: ` (12.800 ms)`
unfoldable pub beside_text : ℕ → List ℕ
beside_text n = codes " (" ++ milliseconds_text n ++ codes " ms)"

-- a name and its number: ` M=1`
unfoldable pub number_text : List ℕ → ℕ → List ℕ
number_text name n = name ++ decimal n

-- a name and its ticks: ` I=100 (12.800 ms)`
unfoldable pub ticks_text : List ℕ → ℕ → List ℕ
ticks_text name n = number_text name n ++ beside_text n

-- eight hexadecimal digits
unfoldable pub cid_text : ℕ → List ℕ
cid_text cid = hex_of (to_be_bytes w32 cid)

unfoldable pub role_text : Bool → List ℕ
role_text slave = cond slave (codes " slave") (codes " master")

-- CID and role, M and S in words
unfoldable pub connection_text : Settings → List ℕ
connection_text s =
    cid_text s.connection ++ role_text s.slave
    ++ number_text (codes " M=") s.masterwords ++ number_text (codes " S=") s.slavewords

-- I, R and A
unfoldable pub times_text : Settings → List ℕ
times_text s =
    ticks_text (codes " I=") s.interval ++ ticks_text (codes " R=") s.roundtrip
    ++ ticks_text (codes " A=") s.age

-- `: a shown value is at most 150 ticks (19.200 ms) old`, and the newline
unfoldable pub bound_text : ℕ → List ℕ
bound_text n =
    number_text (codes ": a shown value is at most ") n ++ codes " ticks" ++ beside_text n ++ codes " old\n"

-- a connection's settings, and the bound that demand 3 proves at this end
unfoldable pub bounds_text : Settings → List ℕ
bounds_text s = connection_text s ++ times_text s ++ bound_text (bound_of s)
