-- The theorem's premises can be met, with clocks that part and over loadings of the slave: a line starts, its station at
-- times not ready, performs a command, refreshes both ways and shows both values, once more when the slave's clock has
-- gained a tick, and again after its offset was measured anew; its slave is loaded again while frames travel, with a
-- wrong interval at first, takes an old S-Connect request, starts again under another session number, is handed an old
-- S-Refresh, and both values are shown once more. All of it is computed.
use mathlib.Core.Path.{◌≡◌, refl, ap}
use Rattle.std.specs.Prelude.{None, Some}
use mathlib.Core.Bool.{Bool, true, false, cond}
use mathlib.Core.List.{List, [], ◌∷◌, ◌++◌}
use Prim.Native.Nat.{ℕ, ◌+◌}
use lib.Dec.{lit≤}
use Rattle.frame.specs.declared.Command.{Command}
use Rattle.frame.specs.declared.Command.TheVariants as K
use Rattle.frame.specs.declared.Fields.{Fields}
use Rattle.frame.specs.Control.{is}
use Rattle.endpoint.specs.declared.Settings.{Settings}
use Rattle.steps.specs.Frames.{sent_fields, ack_fields, setup_data, handed_over}
use Rattle.steps.specs.Steps.{start, stop, restart, set_not_ready, set_result, invoke, Call, act, send, deliver, show}
use Rattle.link.specs.Clocks.{keeps_pace}
use Rattle.link.specs.Runs.{Event, called, loaded, same_fields, last_from, last_of, may_travel, sent_at}
use Rattle.link.specs.Runs.{Show, shown, Link}
use Rattle.link.specs.Fresh.{Paired, run_of}

settings : Bool → ℕ → Settings
settings slave interval = record {
  connection = 0x01020103;
  slave = slave;
  masterwords = 1;
  slavewords = 1;
  interval = interval;
  roundtrip = 50;
  age = 50;
  station = 7;
}

-- moments are 5,000 above the master's readings; the slave's clock is some ticks ahead of the master's: 5,000 at first,
-- later 5,001; once it is loaded again 100, and then 10
at_master_law : ℕ → Call → Event
at_master_law t call = called false t 0 call

at_slave : (ahead t : ℕ) → Call → Event
at_slave ahead t call = called true (ahead + t) (5000 + t) call

-- a master's frame in the session n, with the timestamp t
sends : ℕ → Command → Bool → ℕ → ℕ → Fields
sends n k sequence t baseline =
    sent_fields k sequence false (cond (is k K.Connect) None (Some n)) 0x01020103 t baseline

-- a request written at t, taken by the slave, and its reply, with Busy or Error or neither, taken by the master, one
-- tick later each
answered : (ahead n : ℕ) (busy error sequence : Bool) (t : ℕ) (k : Command) (baseline : ℕ) (request reply : List ℕ)
    → List Event
answered ahead n busy error sequence t k baseline request reply =
    at_master_law t (send [])
    ∷ at_slave ahead (1 + t) (deliver (sends n k sequence t baseline) request)
    ∷ at_master_law (2 + t) (deliver (ack_fields k busy error sequence (Some n) 0x01020103 t) reply) ∷ []

-- a setup request, whose reply repeats its data
repeated : (ahead n : ℕ) (busy error : Bool) (t : ℕ) (k : Command) (baseline : ℕ) → List Event
repeated ahead n busy error t k baseline =
    let words = setup_data (settings false 20000) k in answered ahead n busy error false t k baseline words words

exchange : (ahead n t : ℕ) (k : Command) (baseline : ℕ) → List Event
exchange ahead n t k baseline = repeated ahead n false false t k baseline

-- the same in the first session, while the station is not ready
postponed : ℕ → Command → List Event
postponed t k =
    (at_slave 5000 t (act (set_not_ready true)) ∷ [])
    ++ (repeated 5000 7 true false t k 0 ++ (at_slave 5000 (2 + t) (act (set_not_ready false)) ∷ []))

-- a queued command, first with Busy, since the station has no result yet, and then with its result
command : List ℕ
command = 0 ∷ 0 ∷ 0 ∷ 7 ∷ []

result : List ℕ
result = 9 ∷ 8 ∷ 7 ∷ 6 ∷ []

performed : ℕ → List Event
performed t =
    (at_master_law t (act (invoke 7 [])) ∷ [])
    ++ (answered 5000 7 true false false t K.InvokeFunc 0 command command
    ++ ((at_slave 5000 (2 + t) (act (set_result result)) ∷ [])
    ++ answered 5000 7 false false false (3 + t) K.InvokeFunc 0 command result))

-- a value each way, and both shown; the slave reckons the master's time a tick high, which is what the reply to
-- S-RefreshReady took, and so many ticks more
refreshed : (ahead lead n t : ℕ) (down up : List ℕ) → List Event
refreshed ahead lead n t down up =
    at_master_law t (send down)
    ∷ at_slave ahead (1 + t) (deliver (sends n K.Refresh false t 0) down)
    ∷ at_slave ahead (10 + t) show
    ∷ at_slave ahead (11 + t) (send up)
    ∷ at_master_law (12 + t) (deliver (sent_fields K.Refresh false true (Some n) 0x01020103 (12 + lead + t) 0) up)
    ∷ at_master_law (20 + t) show ∷ []

-- a measurement in Refresh, the first, whose Offset op seq is 1: S-RefreshMO, and S-RefreshGO a tick after its reply
measured : (ahead n t : ℕ) → List Event
measured ahead n t =
    let zero = setup_data (settings false 20000) K.RefreshMo in
    answered ahead n false false true t K.RefreshMo 0 zero zero
    ++ answered ahead n false false true (3 + t) K.RefreshGo 1 zero zero

-- the session 7
before : List Event
before =
    (at_master_law 9 (act start) ∷ [])
    ++ (exchange 5000 7 10 K.Connect 0
    ++ (postponed 15 K.ConfirmNetwork
    ++ (exchange 5000 7 20 K.ConfirmNetwork 0
    ++ (postponed 25 K.VerifyStation
    ++ (exchange 5000 7 30 K.VerifyStation 0
    ++ (performed 33
    ++ (postponed 39 K.RefreshReady
    ++ (exchange 5000 7 42 K.RefreshReady 0
    ++ (exchange 5000 7 50 K.RefreshGo 6
    ++ (refreshed 5000 0 7 60 (1 ∷ 2 ∷ 3 ∷ 4 ∷ []) (5 ∷ 6 ∷ 7 ∷ 8 ∷ [])
    ++ (refreshed 5001 1 7 10040 (2 ∷ 4 ∷ 6 ∷ 8 ∷ []) (1 ∷ 3 ∷ 5 ∷ 7 ∷ [])
    ++ (measured 5001 7 10062
    ++ refreshed 5001 0 7 10070 (3 ∷ 6 ∷ 9 ∷ 12 ∷ []) (2 ∷ 5 ∷ 8 ∷ 11 ∷ [])))))))))))))

-- the slave is loaded with the number 8 and a wrong interval: it takes the old S-Connect request of 10, and ends at
-- S-InitConfirmNetPrm
between : List Event
between =
    (loaded (settings true 77) 8
    ∷ at_slave 100 10100 (deliver (sends 7 K.Connect false 10 0) (setup_data (settings false 20000) K.Connect))
    ∷ at_master_law 10101 (act stop)
    ∷ at_master_law 10102 (act (restart 0))
    ∷ at_master_law 10103 (act start) ∷ [])
    ++ (exchange 100 8 10105 K.Connect 0 ++ repeated 100 8 false true 10110 K.ConfirmNetwork 0)

-- then with the right one and the number 9
after : List Event
after =
    (loaded (settings true 20000) 9
    ∷ at_master_law 10119 (act (restart 0))
    ∷ at_master_law 10119 (act start) ∷ [])
    ++ (exchange 10 9 10120 K.Connect 0
    ++ (exchange 10 9 10123 K.ConfirmNetwork 0
    ++ (exchange 10 9 10126 K.VerifyStation 0
    ++ (exchange 10 9 10129 K.RefreshReady 0
    ++ (exchange 10 9 10135 K.RefreshGo 4
    ++ ((at_slave 10 10138 (deliver (sends 7 K.Refresh false 60 0) (1 ∷ 2 ∷ 3 ∷ 4 ∷ [])) ∷ [])
    ++ refreshed 10 0 9 10140 (1 ∷ 1 ∷ 2 ∷ 3 ∷ []) (5 ∷ 8 ∷ 13 ∷ 21 ∷ [])))))))

run : Link
run = run_of (settings false 20000) (settings true 20000) 7 5000 (before ++ (between ++ after))

paired : Paired (settings false 20000) (settings true 20000)
unfolding settings
paired = record {
  master = refl;
  slave = refl;
  ticks_m = record { some = lit≤ tt; interval = lit≤ tt; roundtrip = lit≤ tt; age = lit≤ tt };
  ticks_s = record { some = lit≤ tt; interval = lit≤ tt; roundtrip = lit≤ tt; age = lit≤ tt };
}

values : List Show
values =
    shown true (settings true 20000) 5070 (1 ∷ 2 ∷ 3 ∷ 4 ∷ []) 11 21 21
    ∷ shown false (settings false 20000) 5080 (5 ∷ 6 ∷ 7 ∷ 8 ∷ []) 8 22 22
    ∷ shown true (settings true 20000) 15050 (2 ∷ 4 ∷ 6 ∷ 8 ∷ []) 12 23 23
    ∷ shown false (settings false 20000) 15060 (1 ∷ 3 ∷ 5 ∷ 7 ∷ []) 8 24 24
    ∷ shown true (settings true 20000) 15080 (3 ∷ 6 ∷ 9 ∷ 12 ∷ []) 11 29 29
    ∷ shown false (settings false 20000) 15090 (2 ∷ 5 ∷ 8 ∷ 11 ∷ []) 8 30 30
    ∷ shown true (settings true 20000) 15150 (1 ∷ 1 ∷ 2 ∷ 3 ∷ []) 11 47 47
    ∷ shown false (settings false 20000) 15160 (5 ∷ 8 ∷ 13 ∷ 21 ∷ []) 8 48 48
    ∷ []

-- both facts at once, so that the run is computed once
abbrev told : Link → Bool × List Show
told l = (l.allowed, l.shows)

computed : told run ≡ (true, values)
unfolding run before between after measured refreshed performed command result postponed exchange repeated answered
    sends at_master_law at_slave settings values setup_data handed_over same_fields last_from last_of may_travel sent_at keeps_pace
computed = refl

allowed : run.allowed ≡ true
allowed = ap (λ (x : Bool × List Show). x.0) computed

shows : run.shows ≡ values
shows = ap (λ (x : Bool × List Show). x.1) computed
