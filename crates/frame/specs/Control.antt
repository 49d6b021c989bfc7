-- The CTRL word: commands and their codes, the bits, and the form rule (document 01, "The frame"; number 7).
use Rattle.std.specs.Prelude.{Bool, true, false, ◌&&◌, ◌||◌, not, cond, ℕ, ◌+◌, ◌*◌, ◌/◌, ◌%◌, ◌^◌, eqb}
use Rattle.std.specs.Prelude.{None, Option, Some, Result, Err, Ok}
use Rattle.std.specs.Bool.{beq}
use Rattle.frame.specs.declared.Command.{Command}
use Rattle.frame.specs.declared.Command.TheVariants.{Connect, ConfirmNetwork, VerifyStation, InvokeFunc}
use Rattle.frame.specs.declared.Command.TheVariants.{Disconnect, ReadErrorInfo, WriteErrorInfo, RefreshReady}
use Rattle.frame.specs.declared.Command.TheVariants.{RefreshMo, RefreshGo, Refresh}
use Rattle.frame.specs.declared.Fields.{Fields}
use Rattle.frame.specs.declared.UnlistedCode.{UnlistedCode}

-- Cmd
abbrev pub code_of : Command → ℕ
code_of Connect = 0x00
code_of ConfirmNetwork = 0x01
code_of VerifyStation = 0x02
code_of InvokeFunc = 0x03
code_of Disconnect = 0xF9
code_of ReadErrorInfo = 0xFA
code_of WriteErrorInfo = 0xFB
code_of RefreshReady = 0xFC
code_of RefreshMo = 0xFD
code_of RefreshGo = 0xFE
code_of Refresh = 0xFF

-- the command of a code; for an unlisted code Refresh stands in, whose own code is another
abbrev pub command_of : ℕ → Command
command_of code =
    cond (eqb code 0x00) Connect
    (cond (eqb code 0x01) ConfirmNetwork
    (cond (eqb code 0x02) VerifyStation
    (cond (eqb code 0x03) InvokeFunc
    (cond (eqb code 0xF9) Disconnect
    (cond (eqb code 0xFA) ReadErrorInfo
    (cond (eqb code 0xFB) WriteErrorInfo
    (cond (eqb code 0xFC) RefreshReady
    (cond (eqb code 0xFD) RefreshMo
    (cond (eqb code 0xFE) RefreshGo Refresh)))))))))

-- the command whose code it is; an unlisted code is the error's
abbrev pub listed : ℕ → Result Command UnlistedCode
listed code = cond (eqb (code_of (command_of code)) code) (Ok (command_of code)) (Err (record { 0 = code }))

abbrev pub is : Command → Command → Bool
is a b = eqb (code_of a) (code_of b)

-- Sub CID active, bit 16, and Sub CID
abbrev pub subconnection_bits : Option ℕ → ℕ
subconnection_bits None = 0
subconnection_bits (Some n) = 65536 + n

abbrev pub subconnection_of : Bool → ℕ → Option ℕ
subconnection_of true n = Some n
subconnection_of false n = None

abbrev pub is_absent : Option ℕ → Bool
is_absent None = true
is_absent (Some n) = false

-- the same Sub CID, or none in both
abbrev pub is_same : Option ℕ → Option ℕ → Bool
is_same a b = eqb (subconnection_bits a) (subconnection_bits b)

-- its 16 bits
abbrev pub narrowed : Option ℕ → Option ℕ
narrowed None = None
narrowed (Some n) = Some (n % 65536)

abbrev pub bit : ℕ → ℕ → Bool
bit i v = eqb (v / 2 ^ i % 2) 1

-- n where the flag is set
abbrev pub flag : Bool → ℕ → ℕ
flag b n = cond b n 0

-- CTRL: Cmd, Ack (bit 23), Busy (22), Error (21), Offset op seq (20), Application (18), Sub CID; MO busy (19) and bit
-- 17 are 0
unfoldable pub control_of : Fields → ℕ
control_of f =
    16777216 * code_of f.command
    + (flag f.ack 8388608
    + (flag f.busy 4194304
    + (flag f.error 2097152
    + (flag f.sequence 1048576
    + (flag f.application 262144
    + subconnection_bits f.subconnection)))))

-- Ack: in replies only; S-Refresh and S-Disconnect have none
abbrev pub ack_fits : Fields → Bool
ack_fits f = not f.ack || not (is f.command Refresh || is f.command Disconnect)

-- in every Cmd but S-Refresh, Application equals Ack
abbrev pub application_fits : Fields → Bool
application_fits f = is f.command Refresh || beq f.application f.ack

-- the commands whose reply a station that is not ready holds back (document 02, note 2)
abbrev pub waits_for_station : Command → Bool
waits_for_station k = is k ConfirmNetwork || (is k VerifyStation || is k RefreshReady)

-- the commands whose reply may have Busy 1: these, and S-InvokeFunc while work is in progress (note 5)
abbrev pub may_be_busy : Command → Bool
may_be_busy k = waits_for_station k || is k InvokeFunc

-- Busy may be 1 in those replies only
abbrev pub busy_fits : Fields → Bool
busy_fits f = not f.busy || (f.ack && may_be_busy f.command)

-- Error may be 1 in replies only
abbrev pub error_fits : Fields → Bool
error_fits f = not f.error || f.ack

-- OBL may be other than 0 in an S-RefreshGO request only
abbrev pub baseline_fits : Fields → Bool
baseline_fits f = eqb f.baseline 0 || (is f.command RefreshGo && not f.ack)

-- the commands that Offset op seq joins (document 02, note 9): a measurement in Refresh, whose S-RefreshGO closes it;
-- setup's has 0
abbrev pub is_joined : Command → Bool
is_joined k = is k RefreshMo || is k RefreshGo

-- Offset op seq may be 1 in those only
abbrev pub sequence_fits : Fields → Bool
sequence_fits f = not f.sequence || is_joined f.command

-- Sub CID carries the session number (document 02, note 8); an S-Connect request has none
abbrev pub session_fits : Fields → Bool
session_fits f = is_absent f.subconnection || (f.ack || not (is f.command Connect))

-- the form rule on fields
unfoldable pub has_form : Fields → Bool
has_form f =
    ack_fits f && (application_fits f && (busy_fits f && (error_fits f
    && (baseline_fits f && (sequence_fits f && session_fits f)))))
