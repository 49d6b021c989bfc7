-- The cases of documents 01 and 02 hold: each part of the table is computed.
use mathlib.Core.Path.{◌≡◌, refl, ap}
use mathlib.Core.Bool.{true}
use mathlib.Core.List.{List, [], ◌∷◌, ◌++◌, map-append}
use Prim.Native.Nat.{ℕ}
use Rattle.crc.specs.Crc.{bit_step, bit_steps, byte_step, crc_from, crc}
use Rattle.frame.specs.Control.{control_of, has_form}
use Rattle.frame.specs.Reading.{has_check_word, fields_in, reading_of_copies, reading_of}
use Rattle.frame.specs.Writing.{head_bytes, with_check_word, twice, sub_bytes, frame_bytes}
use Rattle.steps.specs.Frames.{setup_data, handed_over, record_in}
use Rattle.settings.specs.Lists.{connection_at, settings_at, is_connection_at, is_new_at, are_connections, is_list}
use Rattle.gateway.specs.Tables.{endpoint_at, place_of, clock_step}
use Rattle.cases.specs.Cases.{Case, main_cases, edges, empty_cycles, busy_replies, request_limits, results, user_results}
use Rattle.cases.specs.Cases.{commands, command_replies, ages_at_slave, ages_at_master, no_ages, lent_slices, loadings, full_table, connections, loading_all, Hold}
use Rattle.cases.specs.ErrorRecords.{records, days, readings, writings, user_records, queued, read_replies, write_replies}
use Rattle.cases.specs.ErrorRecords.{record_cases}
use Rattle.cases.specs.Sessions.{sessions_at_slave, sessions_at_master, session_forms}
use Rattle.cases.specs.Sessions.{session_cases}
use Rattle.cases.specs.Measurements.{measurements, measurement_drops, measurement_replies, measurement_requests}
use Rattle.cases.specs.Measurements.{measurement_refusals, offset_lives, drift_allowances, measurement_forms}
use Rattle.cases.specs.Measurements.{measurement_cases}
use Rattle.cases.specs.Table.{CasesHold}
use Rattle.errors.specs.Calendar.{days_of, days_in, is_date}
use Rattle.errors.specs.Reading.{has_digits, has_count, is_record, more_follows}

edges_hold : Hold edges
unfolding Hold edges control_of head_bytes with_check_word twice sub_bytes frame_bytes bit_step bit_steps byte_step crc_from crc
    setup_data settings_at endpoint_at clock_step
edges_hold = refl

cycles_hold : Hold empty_cycles
unfolding Hold empty_cycles reading_of settings_at endpoint_at clock_step
cycles_hold = refl

busy_hold : Hold busy_replies
unfolding Hold busy_replies control_of has_form has_check_word fields_in reading_of_copies reading_of head_bytes with_check_word
    twice bit_step bit_steps byte_step crc_from crc setup_data settings_at
busy_hold = refl

limits_hold : Hold request_limits
unfolding Hold request_limits control_of settings_at
limits_hold = refl

results_hold : Hold results
unfolding Hold results control_of setup_data handed_over settings_at
results_hold = refl

user_results_hold : Hold user_results
unfolding Hold user_results connection_at settings_at is_connection_at is_new_at are_connections is_list endpoint_at clock_step
user_results_hold = refl

commands_hold : Hold commands
unfolding Hold commands control_of has_form has_check_word fields_in reading_of_copies reading_of head_bytes with_check_word
    twice bit_step bit_steps byte_step crc_from crc setup_data handed_over settings_at endpoint_at place_of clock_step
commands_hold = refl

command_replies_hold : Hold command_replies
unfolding Hold command_replies control_of has_form has_check_word fields_in reading_of_copies reading_of head_bytes
    with_check_word twice sub_bytes frame_bytes bit_step bit_steps byte_step crc_from crc setup_data handed_over settings_at
    endpoint_at place_of clock_step
command_replies_hold = refl

slave_ages_hold : Hold ages_at_slave
unfolding Hold ages_at_slave setup_data settings_at
slave_ages_hold = refl

master_ages_hold : Hold ages_at_master
unfolding Hold ages_at_master setup_data settings_at
master_ages_hold = refl

no_ages_hold : Hold no_ages
unfolding Hold no_ages setup_data settings_at
no_ages_hold = refl

slices_hold : Hold lent_slices
unfolding Hold lent_slices control_of has_form has_check_word fields_in reading_of_copies reading_of head_bytes with_check_word
    twice sub_bytes frame_bytes bit_step bit_steps byte_step crc_from crc settings_at endpoint_at place_of clock_step
slices_hold = refl

loadings_hold : Hold loadings
unfolding Hold loadings connection_at settings_at is_connection_at is_new_at are_connections is_list endpoint_at clock_step
loadings_hold = refl

-- the test of 64 connections is the longest to compute: once
all_right : is_list (connections 64) ≡ true
unfolding connection_at is_connection_at is_new_at are_connections is_list
all_right = refl

all_loaded : loading_all 64 ≡ 0 ∷ 64 ∷ 0x013F803F ∷ []
unfolding settings_at endpoint_at
all_loaded = rw all_right

full_holds : Hold full_table
unfolding Hold full_table
full_holds = ap (λ (given : List ℕ). given ∷ []) all_loaded

-- ---- error records
records_hold : Hold records
unfolding Hold records days_of days_in is_date has_digits has_count is_record
records_hold = refl

days_hold : Hold days
unfolding Hold days days_of days_in is_date has_digits has_count is_record
days_hold = refl

readings_hold : Hold readings
unfolding Hold readings control_of has_form has_check_word fields_in reading_of_copies reading_of head_bytes with_check_word
    twice bit_step bit_steps byte_step crc_from crc setup_data record_in settings_at days_of days_in is_date has_digits has_count is_record
readings_hold = refl

writings_hold : Hold writings
unfolding Hold writings control_of setup_data record_in settings_at days_of days_in is_date has_digits has_count is_record
    more_follows
writings_hold = refl

user_records_hold : Hold user_records
unfolding Hold user_records control_of setup_data record_in connection_at settings_at is_connection_at is_new_at are_connections is_list
    endpoint_at clock_step days_of days_in is_date has_digits has_count is_record
user_records_hold = refl

queued_hold : Hold queued
unfolding Hold queued control_of setup_data handed_over record_in settings_at endpoint_at place_of clock_step days_of days_in is_date
    has_digits has_count is_record
queued_hold = refl

read_replies_hold : Hold read_replies
unfolding Hold read_replies control_of setup_data record_in settings_at endpoint_at place_of clock_step days_of days_in is_date
    has_digits has_count is_record
read_replies_hold = refl

write_replies_hold : Hold write_replies
unfolding Hold write_replies control_of setup_data record_in settings_at endpoint_at place_of clock_step days_of days_in is_date
    has_digits has_count is_record
write_replies_hold = refl

slave_sessions_hold : Hold sessions_at_slave
unfolding Hold sessions_at_slave control_of setup_data settings_at days_of days_in is_date has_digits has_count is_record more_follows
slave_sessions_hold = refl

master_sessions_hold : Hold sessions_at_master
unfolding Hold sessions_at_master control_of setup_data handed_over record_in settings_at
master_sessions_hold = refl

session_forms_hold : Hold session_forms
unfolding Hold session_forms control_of has_form has_check_word fields_in reading_of_copies reading_of head_bytes with_check_word
    twice bit_step bit_steps byte_step crc_from crc connection_at settings_at is_connection_at is_new_at are_connections is_list
    endpoint_at
session_forms_hold = refl

-- ---- measurements in Refresh
measurements_hold : Hold measurements
unfolding Hold measurements control_of setup_data
measurements_hold = refl

drops_hold : Hold measurement_drops
unfolding Hold measurement_drops control_of setup_data endpoint_at clock_step
drops_hold = refl

measurement_replies_hold : Hold measurement_replies
unfolding Hold measurement_replies control_of setup_data
measurement_replies_hold = refl

requests_hold : Hold measurement_requests
unfolding Hold measurement_requests control_of setup_data
requests_hold = refl

refusals_hold : Hold measurement_refusals
unfolding Hold measurement_refusals control_of setup_data
refusals_hold = refl

lives_hold : Hold offset_lives
unfolding Hold offset_lives control_of setup_data endpoint_at clock_step
lives_hold = refl

allowances_hold : Hold drift_allowances
unfolding Hold drift_allowances setup_data clock_step
allowances_hold = refl

measurement_forms_hold : Hold measurement_forms
unfolding Hold measurement_forms control_of has_form has_check_word fields_in reading_of_copies reading_of head_bytes with_check_word
    twice bit_step bit_steps byte_step crc_from crc
measurement_forms_hold = refl

-- ---- the parts together
both : (xs ys : List Case) → Hold xs → Hold ys → Hold (xs ++ ys)
unfolding Hold
both xs ys p q = rw (map-append, map-append) (λ i. p i ++ q i)

main_hold : Hold main_cases
main_hold =
    both _ _ edges_hold
    (both _ _ cycles_hold
    (both _ _ busy_hold
    (both _ _ limits_hold
    (both _ _ results_hold
    (both _ _ user_results_hold
    (both _ _ commands_hold
    (both _ _ command_replies_hold
    (both _ _ slave_ages_hold
    (both _ _ master_ages_hold
    (both _ _ no_ages_hold (both _ _ slices_hold (both _ _ loadings_hold full_holds))))))))))))

records_together : Hold record_cases
records_together =
    both _ _ records_hold
    (both _ _ days_hold
    (both _ _ readings_hold
    (both _ _ writings_hold
    (both _ _ user_records_hold (both _ _ queued_hold (both _ _ read_replies_hold write_replies_hold))))))

sessions_together : Hold session_cases
sessions_together = both _ _ slave_sessions_hold (both _ _ master_sessions_hold session_forms_hold)

measurements_together : Hold measurement_cases
measurements_together =
    both _ _ measurements_hold
    (both _ _ drops_hold
    (both _ _ measurement_replies_hold
    (both _ _ requests_hold
    (both _ _ refusals_hold (both _ _ lives_hold (both _ _ allowances_hold measurement_forms_hold))))))

pub cases_hold : CasesHold
cases_hold =
    both _ _ main_hold (both _ _ records_together (both _ _ sessions_together measurements_together))
