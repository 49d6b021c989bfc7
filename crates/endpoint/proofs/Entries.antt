-- The table of states against commands, row by row: what stands at a state's row and a command's column.
use Rattle.std.proofs.Common.{◌≡◌, List, [], ◌∷◌, get_or, refl}
use Rattle.std.specs.Prelude.{Option}
use Rattle.frame.specs.declared.Command.{Command}
use Rattle.frame.specs.declared.Command.TheVariants as K
use Rattle.endpoint.specs.declared.State.{State}
use Rattle.endpoint.specs.declared.State.TheVariants.{Close, Starting, EstablishPending, Establish, ParamVerify}
use Rattle.endpoint.specs.declared.State.TheVariants.{FuncRunning, RefreshPending, Refresh, Terminate}
use Rattle.endpoint.specs.declared.State.TheVariants.{TerminateMore}
use Rattle.endpoint.specs.Table.{row_of, column_of, next_of}

abbrev row : State → List (Option State)
row s =
    next_of K.Connect s ∷ next_of K.ConfirmNetwork s ∷ next_of K.VerifyStation s ∷ next_of K.InvokeFunc s ∷ next_of K.ReadErrorInfo s ∷ next_of K.WriteErrorInfo s ∷ next_of K.RefreshReady s ∷ next_of K.RefreshMo s ∷ next_of K.RefreshGo s ∷ next_of K.Refresh s ∷ next_of K.Disconnect s ∷ []

abbrev pub table : List (List (Option State))
table =
    row Close ∷ row Starting ∷ row EstablishPending ∷ row Establish ∷ row ParamVerify ∷ row FuncRunning ∷ row RefreshPending ∷ row Refresh ∷ row Terminate ∷ row TerminateMore ∷ []

row_at : (z : List (Option State)) (s : State) → get_or table (row_of s) z ≡ row s
row_at z Close = refl
row_at z Starting = refl
row_at z EstablishPending = refl
row_at z Establish = refl
row_at z ParamVerify = refl
row_at z FuncRunning = refl
row_at z RefreshPending = refl
row_at z Refresh = refl
row_at z Terminate = refl
row_at z TerminateMore = refl

entry_in : (z : Option State) (s : State) (k : Command) → get_or (row s) (column_of k) z ≡ next_of k s
entry_in z s K.Connect = refl
entry_in z s K.ConfirmNetwork = refl
entry_in z s K.VerifyStation = refl
entry_in z s K.InvokeFunc = refl
entry_in z s K.ReadErrorInfo = refl
entry_in z s K.WriteErrorInfo = refl
entry_in z s K.RefreshReady = refl
entry_in z s K.RefreshMo = refl
entry_in z s K.RefreshGo = refl
entry_in z s K.Refresh = refl
entry_in z s K.Disconnect = refl

-- y and z stand for what a list gives past its end
pub entry : (y : List (Option State)) (z : Option State) (s : State) (k : Command)
    → get_or (get_or table (row_of s) y) (column_of k) z ≡ next_of k s
entry y z s k = rw (row_at y s) (entry_in z s k)
