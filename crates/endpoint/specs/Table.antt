-- State against command, laid out like 001's table 40: the state that each command leads to, and the request due in
-- each state.
use Rattle.std.specs.Prelude.{ℕ, Bool, true, false, ◌||◌, ◌==◌}
use Rattle.std.specs.Prelude.{None, Option, Some}
use Rattle.frame.specs.declared.Command.{Command}
use Rattle.frame.specs.declared.Command.TheVariants as K
use Rattle.endpoint.specs.declared.State.{State}
use Rattle.endpoint.specs.declared.State.TheVariants.{Close, Starting, EstablishPending, Establish, ParamVerify}
use Rattle.endpoint.specs.declared.State.TheVariants.{FuncRunning, RefreshPending, Refresh, Terminate}
use Rattle.endpoint.specs.declared.State.TheVariants.{TerminateMore}

-- one of ten, by the state: Close, Starting, EstablishPending, Establish, ParamVerify, FuncRunning, RefreshPending,
-- Refresh, Terminate, TerminateMore
abbrev pub by_state : {A : Type 0} → State → A → A → A → A → A → A → A → A → A → A → A
by_state Close a b c d e f g h i j = a
by_state Starting a b c d e f g h i j = b
by_state EstablishPending a b c d e f g h i j = c
by_state Establish a b c d e f g h i j = d
by_state ParamVerify a b c d e f g h i j = e
by_state FuncRunning a b c d e f g h i j = f
by_state RefreshPending a b c d e f g h i j = g
by_state Refresh a b c d e f g h i j = h
by_state Terminate a b c d e f g h i j = i
by_state TerminateMore a b c d e f g h i j = j

-- one of eleven, by the command: S-Connect, S-InitConfirmNetPrm, S-InitVerifyStnPrm, S-InvokeFunc, S-ReadErrorInfo,
-- S-WriteErrorInfo, S-RefreshReady, S-RefreshMO, S-RefreshGO, S-Refresh, S-Disconnect
abbrev pub by_command : {A : Type 0} → Command → A → A → A → A → A → A → A → A → A → A → A → A
by_command K.Connect a b c d e f g h i j k = a
by_command K.ConfirmNetwork a b c d e f g h i j k = b
by_command K.VerifyStation a b c d e f g h i j k = c
by_command K.InvokeFunc a b c d e f g h i j k = d
by_command K.ReadErrorInfo a b c d e f g h i j k = e
by_command K.WriteErrorInfo a b c d e f g h i j k = f
by_command K.RefreshReady a b c d e f g h i j k = g
by_command K.RefreshMo a b c d e f g h i j k = h
by_command K.RefreshGo a b c d e f g h i j k = i
by_command K.Refresh a b c d e f g h i j k = j
by_command K.Disconnect a b c d e f g h i j k = k

-- a row a state: what each command does in it. The transitions of table 40 stand above each row; what has none there is
-- document 01's: S-Disconnect, S-Refresh accepted, and Starting, a master's before its first reply; or document 02's:
-- S-ReadErrorInfo. S-WriteErrorInfo leads to TerminateMore where more error records follow (ByFrame)
abbrev pub next_of : Command → State → Option State
-- S-Connect ST1
next_of k Close = by_command k (Some EstablishPending) None None None None None None None None None None
next_of k Starting = by_command k (Some EstablishPending) None None None None None None None None None (Some Terminate)
-- S-Connect ST25, S-InitConfirmNetPrm ST2, S-WriteErrorInfo ST28, ST29
next_of k EstablishPending = by_command k (Some EstablishPending) (Some Establish) None None None (Some Terminate) None None None None (Some Terminate)
-- S-InitVerifyStnPrm ST4, S-WriteErrorInfo ST31, ST32
next_of k Establish = by_command k None None (Some ParamVerify) None None (Some Terminate) None None None None (Some Terminate)
-- S-InvokeFunc ST7, ST8, S-WriteErrorInfo ST34, ST35, S-RefreshReady ST6
next_of k ParamVerify = by_command k None None None (Some FuncRunning) (Some ParamVerify) (Some Terminate) (Some RefreshPending) None None None (Some Terminate)
-- S-InvokeFunc ST10, ST11, S-WriteErrorInfo ST37, ST38, S-RefreshReady ST12
next_of k FuncRunning = by_command k None None None (Some FuncRunning) None (Some Terminate) (Some RefreshPending) None None None (Some Terminate)
-- S-WriteErrorInfo ST39, ST40, S-RefreshGO ST14
next_of k RefreshPending = by_command k None None None None None (Some Terminate) None None (Some Refresh) None (Some Terminate)
-- S-RefreshMO ST17, S-RefreshGO ST18
next_of k Refresh = by_command k None None None None None None None (Some Refresh) (Some Refresh) (Some Refresh) (Some Terminate)
next_of k Terminate = by_command k None None None None None None None None None None None
-- S-WriteErrorInfo ST21, ST44
next_of k TerminateMore = by_command k None None None None None (Some Terminate) None None None None None

-- a state's row of the table, and a command's column
abbrev pub row_of : State → ℕ
row_of s = by_state s 0 1 2 3 4 5 6 7 8 9

abbrev pub column_of : Command → ℕ
column_of k = by_command k 0 1 2 3 4 5 6 7 8 9 10

abbrev pub is_state : State → State → Bool
is_state a b = row_of a == row_of b

-- setup: all between Close and Refresh
abbrev pub is_setup : State → Bool
is_setup s = by_state s false true true true true true true false false false

-- Terminate, whether or not more error records follow
abbrev pub is_terminated : State → Bool
is_terminated s = is_state s Terminate || is_state s TerminateMore

abbrev pub is_no : Option State → Bool
is_no (Some s) = false
is_no None = true

-- where a command leads; where it is not taken the state stays
abbrev pub state_to : Option State → State → State
state_to (Some s) last = s
state_to None last = last

-- the request that a master sends in a setup state, and whose reply moves it on; in Refresh S-RefreshMO, elsewhere none
-- is due
abbrev pub request_of : State → Command
request_of s =
    by_state s K.Connect K.Connect K.ConfirmNetwork K.VerifyStation K.RefreshReady K.RefreshReady K.RefreshGo
    K.RefreshMo K.Connect K.Connect
