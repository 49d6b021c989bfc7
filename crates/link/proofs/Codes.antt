-- Commands by their codes and states by the request due in them.
use mathlib.Core.Path.{◌≡◌, refl}
use Rattle.std.specs.Prelude.{Some}
use mathlib.Core.Bool.{Bool, true, false, ◌&&◌, ◌||◌, cond, true≢false, false≢true}
use Prim.Native.Nat.{ℕ, ◌-◌, ◌%◌, ◌≤◌}
use native.Mathlib.Omega.{arith}
use borrow.Author.Tests.{ne_eqb}
use mathlib.Mathlib.Data.Bool.Basic.{and_elim_left as and_left}
use Rattle.frame.specs.declared.Command.{Command}
use Rattle.frame.specs.declared.Command.TheVariants as K
use Rattle.frame.specs.Control.{code_of, is, waits_for_station, may_be_busy}
use Rattle.endpoint.specs.declared.State.{State}
use Rattle.endpoint.specs.declared.State.TheVariants.{Close, Starting, EstablishPending, Establish, ParamVerify}
use Rattle.endpoint.specs.declared.State.TheVariants.{FuncRunning, RefreshPending, Refresh, Terminate}
use Rattle.endpoint.specs.declared.State.TheVariants.{TerminateMore}
use Rattle.endpoint.specs.declared.Queue.{Queue}
use Rattle.endpoint.specs.declared.Queue.TheVariants as Q
use Rattle.endpoint.specs.Table.{by_state, is_state, is_setup, is_no, next_of, request_of}
use Rattle.endpoint.specs.Due.{is_waiting, queued_in}
use Rattle.steps.specs.Frames.{baseline_of}

-- by cases on the state
each : (P : State → Type 0) → P Close → P Starting → P EstablishPending → P Establish → P ParamVerify → P FuncRunning
    → P RefreshPending → P Refresh → P Terminate → P TerminateMore
    → (s : State) → P s
each P a b c d e f g h i j Close = a
each P a b c d e f g h i j Starting = b
each P a b c d e f g h i j EstablishPending = c
each P a b c d e f g h i j Establish = d
each P a b c d e f g h i j ParamVerify = e
each P a b c d e f g h i j FuncRunning = f
each P a b c d e f g h i j RefreshPending = g
each P a b c d e f g h i j Refresh = h
each P a b c d e f g h i j Terminate = i
each P a b c d e f g h i j TerminateMore = j

no : {A : Type 0} → true ≡ false → A
no h = absurd (true≢false h)

off : {A : Type 0} → false ≡ true → A
off h = absurd (false≢true h)

-- request_due, by the queue and the state
abbrev pub is_command_in : Bool → State → Bool
is_command_in waits s = waits && is (request_of s) K.RefreshReady

abbrev pub due_in : Queue → State → Command
due_in q s = cond (is_command_in (is_waiting q) s) (queued_in q) (request_of s)

-- a property of the request due in each state, and of a queued command
each_due : (P : State → Command → Type 0) → ((s : State) → P s (request_of s)) → (q : Queue)
    → P ParamVerify (queued_in q) → P FuncRunning (queued_in q) → (s : State) → P s (due_in q s)
each_due P p q a b s = go (is_waiting q)
  where
    go : (waits : Bool) → P s (cond (is_command_in waits s) (queued_in q) (request_of s))
    go false = p s
    go true = each (λ s. P s (cond (is_command_in true s) (queued_in q) (request_of s))) (p Close) (p Starting)
        (p EstablishPending) (p Establish) a b (p RefreshPending) (p Refresh) (p Terminate) (p TerminateMore) s

-- what is queued is neither S-RefreshGO nor S-Refresh
queued_low : (q : Queue) → code_of (queued_in q) ≤ 252
queued_low Q.Empty = omega arith
queued_low Q.InvokeFunc = omega arith
queued_low Q.ReadErrorInfo = omega arith
queued_low Q.WriteErrorInfo = omega arith
queued_low Q.Closed = omega arith

-- S-RefreshGO is due in RefreshPending alone
pub go_due : (q : Queue) (s : State) → code_of (due_in q s) ≡ 254 → is_state s RefreshPending ≡ true
go_due q =
    let l = queued_low q in
    each_due (λ s k. code_of k ≡ 254 → is_state s RefreshPending ≡ true)
    (each (λ s. code_of (request_of s) ≡ 254 → is_state s RefreshPending ≡ true)
    (λ h. absurd (omega arith)) (λ h. absurd (omega arith)) (λ h. absurd (omega arith)) (λ h. absurd (omega arith))
    (λ h. absurd (omega arith)) (λ h. absurd (omega arith))
    (λ h. refl) (λ h. absurd (omega arith)) (λ h. absurd (omega arith)) (λ h. absurd (omega arith)))
    q (λ h. absurd (omega arith)) (λ h. absurd (omega arith))

pub go_baseline : (t m : ℕ) (q : Queue) (s : State) → is_state s RefreshPending ≡ true
    → baseline_of (due_in q s) t m ≡ (t - m) % 65536
go_baseline t m q =
    each_due (λ s k. is_state s RefreshPending ≡ true → baseline_of k t m ≡ (t - m) % 65536)
    (each (λ s. is_state s RefreshPending ≡ true → baseline_of (request_of s) t m ≡ (t - m) % 65536) off off off off off
    off (λ h. refl) off off off)
    q off off

-- no request is S-Refresh
pub due_not_refresh : (q : Queue) (s : State) → is (due_in q s) K.Refresh ≡ false
due_not_refresh q =
    let l = queued_low q in
    let n : is (queued_in q) K.Refresh ≡ false = ne_eqb (code_of (queued_in q)) 255 (λ h. omega arith) in
    each_due (λ s k. is k K.Refresh ≡ false)
    (each (λ s. is (request_of s) K.Refresh ≡ false) refl refl refl refl refl refl refl refl refl refl) q n n

-- Refresh is no setup state, and RefreshPending is one
pub setup_not_refresh : (s : State) → is_setup s ≡ true → is_state s Refresh ≡ false
setup_not_refresh = each (λ s. is_setup s ≡ true → is_state s Refresh ≡ false) (λ h. refl) (λ h. refl) (λ h. refl)
    (λ h. refl) (λ h. refl) (λ h. refl) (λ h. refl) off (λ h. refl) (λ h. refl)

pub refresh_not_setup : (s : State) → is_state s Refresh ≡ true → is_setup s ≡ false
refresh_not_setup = each (λ s. is_state s Refresh ≡ true → is_setup s ≡ false) off off off off off off off (λ h. refl)
    off off

pub pending_setup : (s : State) → is_state s RefreshPending ≡ true → is_setup s ≡ true
pending_setup = each (λ s. is_state s RefreshPending ≡ true → is_setup s ≡ true) off off off off off off (λ h. refl) off
    off off

-- the one state that each command leads to
abbrev pub target_of : Command → State
target_of K.Connect = EstablishPending
target_of K.ConfirmNetwork = Establish
target_of K.VerifyStation = ParamVerify
target_of K.InvokeFunc = FuncRunning
target_of K.ReadErrorInfo = ParamVerify
target_of K.WriteErrorInfo = Terminate
target_of K.RefreshReady = RefreshPending
target_of K.RefreshMo = Refresh
target_of K.RefreshGo = Refresh
target_of K.Refresh = Refresh
target_of K.Disconnect = Terminate

abbrev Leads : Command → State → Type 0
Leads k s = is_no (next_of k s) ≡ false → next_of k s ≡ Some (target_of k)

pub leads : (k : Command) (s : State) → is_no (next_of k s) ≡ false → next_of k s ≡ Some (target_of k)
leads K.Connect = each (Leads K.Connect) (λ h. refl) (λ h. refl) (λ h. refl) no no no no no no no
leads K.ConfirmNetwork = each (Leads K.ConfirmNetwork) no no (λ h. refl) no no no no no no no
leads K.VerifyStation = each (Leads K.VerifyStation) no no no (λ h. refl) no no no no no no
leads K.InvokeFunc = each (Leads K.InvokeFunc) no no no no (λ h. refl) (λ h. refl) no no no no
leads K.ReadErrorInfo = each (Leads K.ReadErrorInfo) no no no no (λ h. refl) no no no no no
leads K.WriteErrorInfo = each (Leads K.WriteErrorInfo) no no (λ h. refl) (λ h. refl) (λ h. refl) (λ h. refl)
    (λ h. refl) no no (λ h. refl)
leads K.RefreshReady = each (Leads K.RefreshReady) no no no no (λ h. refl) (λ h. refl) no no no no
leads K.RefreshMo = each (Leads K.RefreshMo) no no no no no no no (λ h. refl) no no
leads K.RefreshGo = each (Leads K.RefreshGo) no no no no no no (λ h. refl) (λ h. refl) no no
leads K.Refresh = each (Leads K.Refresh) no no no no no no no (λ h. refl) no no
leads K.Disconnect = each (Leads K.Disconnect) no (λ h. refl) (λ h. refl) (λ h. refl) (λ h. refl) (λ h. refl)
    (λ h. refl) (λ h. refl) no no

-- before Refresh S-RefreshGO is taken in RefreshPending alone, and S-RefreshMO nowhere
pub go_from : (s : State) → is_state s Refresh ≡ false → is_no (next_of K.RefreshGo s) ≡ false
    → is_state s RefreshPending ≡ true
go_from = each (λ s. is_state s Refresh ≡ false → is_no (next_of K.RefreshGo s) ≡ false → is_state s RefreshPending ≡ true)
    (λ r. no) (λ r. no) (λ r. no) (λ r. no) (λ r. no) (λ r. no) (λ r h. refl) no (λ r. no) (λ r. no)

pub mo_from : (s : State) → is_state s Refresh ≡ false → is_no (next_of K.RefreshMo s) ≡ false → ⊥
mo_from = each (λ s. is_state s Refresh ≡ false → is_no (next_of K.RefreshMo s) ≡ false → ⊥)
    (λ r. no) (λ r. no) (λ r. no) (λ r. no) (λ r. no) (λ r. no) (λ r. no) no (λ r. no) (λ r. no)

-- before s2 and m2 are fixed: neither in RefreshPending nor in Refresh
abbrev pub Unfixed : State → Type 0
Unfixed s = (is_state s Refresh ≡ false) × (is_state s RefreshPending ≡ false)

abbrev Takes : Command → State → Type 0
Takes k s = is_no (next_of k s) ≡ false → Unfixed s

-- so at a slave, where a request is taken whose reply the station may hold back
pub held_from : (k : Command) → waits_for_station k ≡ true → (s : State) → is_no (next_of k s) ≡ false → Unfixed s
held_from K.Connect b = off b
held_from K.ConfirmNetwork b = each (Takes K.ConfirmNetwork) no no (λ h. (refl, refl)) no no no no no no no
held_from K.VerifyStation b = each (Takes K.VerifyStation) no no no (λ h. (refl, refl)) no no no no no no
held_from K.InvokeFunc b = off b
held_from K.ReadErrorInfo b = off b
held_from K.WriteErrorInfo b = off b
held_from K.RefreshReady b = each (Takes K.RefreshReady) no no no no (λ h. (refl, refl)) (λ h. (refl, refl)) no no no no
held_from K.RefreshMo b = off b
held_from K.RefreshGo b = off b
held_from K.Refresh b = off b
held_from K.Disconnect b = off b

-- at a master, where a request is due whose reply may have Busy, and where a queued command is due
pub busy_due : (q : Queue) (s : State) → may_be_busy (due_in q s) ≡ true → Unfixed s
busy_due q =
    each_due (λ s k. may_be_busy k ≡ true → Unfixed s)
    (each (λ s. may_be_busy (request_of s) ≡ true → Unfixed s) off off (λ h. (refl, refl)) (λ h. (refl, refl))
    (λ h. (refl, refl)) (λ h. (refl, refl)) off off off off)
    q (λ h. (refl, refl)) (λ h. (refl, refl))

pub command_due : (waits : Bool) (s : State) → is_command_in waits s ≡ true → Unfixed s
command_due false s h = off h
command_due true s h = ready_due s h
  where
    ready_due : (s : State) → is (request_of s) K.RefreshReady ≡ true → Unfixed s
    ready_due = each (λ s. is (request_of s) K.RefreshReady ≡ true → Unfixed s) off off off off (λ h. (refl, refl))
        (λ h. (refl, refl)) off off off off

-- from Establish to Refresh: S-InitConfirmNetPrm was taken, and the connection has not ended
abbrev pub is_established : State → Bool
is_established s = by_state s false false false true true true true true false false

pub refresh_established : (s : State) → is_state s Refresh ≡ true → is_established s ≡ true
refresh_established = each (λ s. is_state s Refresh ≡ true → is_established s ≡ true) off off off off off off off
    (λ h. refl) off off

pub not_established : (s : State) → is_established s ≡ false → Unfixed s
not_established = each (λ s. is_established s ≡ false → Unfixed s) (λ h. (refl, refl)) (λ h. (refl, refl))
    (λ h. (refl, refl)) no no no no no (λ h. (refl, refl)) (λ h. (refl, refl))

abbrev Stays : Command → State → Type 0
Stays k s = is_no (next_of k s) ≡ false → is_established s ≡ true

-- no other command leads there from elsewhere
pub stays_established : (k : Command) → is k K.ConfirmNetwork ≡ false → is_established (target_of k) ≡ true → (s : State)
    → is_no (next_of k s) ≡ false → is_established s ≡ true
stays_established K.Connect n e = off e
stays_established K.ConfirmNetwork n e = no n
stays_established K.VerifyStation n e = each (Stays K.VerifyStation) no no no (λ h. refl) no no no no no no
stays_established K.InvokeFunc n e = each (Stays K.InvokeFunc) no no no no (λ h. refl) (λ h. refl) no no no no
stays_established K.ReadErrorInfo n e = each (Stays K.ReadErrorInfo) no no no no (λ h. refl) no no no no no
stays_established K.WriteErrorInfo n e = off e
stays_established K.RefreshReady n e = each (Stays K.RefreshReady) no no no no (λ h. refl) (λ h. refl) no no no no
stays_established K.RefreshMo n e = each (Stays K.RefreshMo) no no no no no no no (λ h. refl) no no
stays_established K.RefreshGo n e = each (Stays K.RefreshGo) no no no no no no (λ h. refl) (λ h. refl) no no
stays_established K.Refresh n e = each (Stays K.Refresh) no no no no no no no (λ h. refl) no no
stays_established K.Disconnect n e = off e

-- S-WriteErrorInfo leads elsewhere, whether or not more follow
pub report_ends : (more : Bool) → is_established (cond more TerminateMore Terminate) ≡ false
report_ends true = refl
report_ends false = refl

-- a reply that has Busy may have it: the station held it back, or work is in progress
pub busy_may : (held waits invoke works : Bool) → ((held && waits) || (invoke && works)) ≡ true
    → (waits || invoke) ≡ true
busy_may held true invoke works h = refl
busy_may true false invoke works h = and_left invoke works h
busy_may false false invoke works h = and_left invoke works h
