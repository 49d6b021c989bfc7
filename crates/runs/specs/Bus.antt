-- What a call puts on the bus, and bytes as the reader takes them.
use Rattle.std.specs.Prelude.{Bool, false, ◌&&◌, List, [], ℕ, eqb}
use Rattle.std.specs.Prelude.{Err, None, Ok, Option}
use Rattle.frame.specs.Reading.{Reading}
use Rattle.frame.specs.Reading.{frame_with}
use Rattle.frame.specs.declared.Command.TheVariants as K
use Rattle.frame.specs.Control.{is}
use Rattle.frame.specs.Reading.{reading_of}
use Rattle.frame.specs.Writing.{frame_bytes}
use Rattle.steps.specs.Frames.{Written, nothing, frame, value}

-- the bytes of the frame that "an earlier send, stop or slave's deliver in the list wrote": what a show or a master's
-- deliver hands to its user is no frame of the list, whatever bytes it is
abbrev pub on_bus : Written → List ℕ
on_bus nothing = []
on_bus (frame f body) = frame_bytes f body
on_bus (value bytes) = []

-- a frame of the CID
abbrev pub is_of : ℕ → Reading → Bool
is_of cid (Ok read) = eqb read.fields.connection cid
is_of cid (Err fault) = false

abbrev pub is_frame_of : ℕ → List ℕ → Bool
is_frame_of cid s = is_of cid (reading_of s)

-- the Sub CID of a frame
abbrev pub session_of : Reading → Option ℕ
session_of (Ok read) = read.fields.subconnection
session_of (Err fault) = None

abbrev pub session_in : List ℕ → Option ℕ
session_in s = session_of (reading_of s)

-- an S-Refresh of the CID
abbrev pub is_refresh_in : ℕ → Reading → Bool
is_refresh_in cid (Ok read) = eqb read.fields.connection cid && is read.fields.command K.Refresh
is_refresh_in cid (Err fault) = false

abbrev pub is_refresh_of : ℕ → List ℕ → Bool
is_refresh_of cid s = is_refresh_in cid (reading_of s)
