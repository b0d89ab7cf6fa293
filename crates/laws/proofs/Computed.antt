-- All definitions that compute, under one name: a fact that is shown by computing says `unfolding computed`.
-- Assumes nothing.
use Rattle.laws.specs.Bits.{bit, number_of_bits, cell, grid, packed_row, from_rows, some_below, counted, some_of, every_of, keep, total, count}
use Rattle.laws.specs.Bits.{gather, place_of, each_below, times}
use Rattle.laws.specs.Words.{power, letters_are_below, empty, lower, before}
use Rattle.laws.specs.Model.{homed, is_state, leads, machine}
use Rattle.laws.specs.Tables.{stored, enter, through_events, through_entries, begun, made, rebuilt, word_of}
use Rattle.laws.specs.Profiles.{same_profile, values, leads_to, marked, join, image, is_fitting, marks_a_round, is_rejecting_pair, rejecting_with}
use Rattle.laws.specs.Profiles.{first_rejecting, verdict, marked_path, start_set, after, set_from, word_set, event_profile, next_profile}
use Rattle.laws.specs.Profiles.{profile_from, word_profile, next_set, set_value, profile_value, set_table, profile_table}
use Rattle.laws.specs.Repeats.{union, accepted_from}
use Rattle.laws.specs.Opposite.{arrow, is_arrow, earlier, sorted, written, rejects_non_empty, gate, in_block, onto, block_profiles, flags}
use Rattle.laws.specs.Opposite.{state_count, pair_count, from_set, from_gate, from_state, from_block, arrows, second_count, arrow_count}
use Rattle.laws.specs.Opposite.{opposite}
use Rattle.laws.specs.Refusals.{first_of, fault, refuse, outside, mask_beyond, arrows_beyond, model_checks, word_checks, course_checks}
use Rattle.laws.specs.File.{head, field, event_field, file_of, offset_of_event, byte, stand_from, formed, value, masks, number_checks}
use Rattle.laws.specs.File.{mask_checks, event_checks, end_checks, front_checks, file_checks, model_read, found, reading}
use Rattle.laws.specs.Answers.{room_for_sets, room_for_profiles, room_for_states, room_for_arrows, over, set_slices, profile_slices, opposite_slices}
use Rattle.laws.specs.Answers.{closing_answer, closing_of, u_and_v, words, verdict_from, verdict_answer, opposite_from, opposite_answer}
use Rattle.laws.specs.Answers.{closing_in, verdict_in, opposite_in, word_memory, arrow_slice}
use Rattle.laws.specs.HandWorked.{◌⇒◌, event, mask, A, B, C, D, E, F, G, H, Swap, Both, Homeless, Shuttle, row_of, row, rows, own_rows}

unfoldable pub computed : Unit {0}
unfolding bit number_of_bits cell grid packed_row from_rows some_below counted some_of every_of keep total count gather place_of each_below times power
    letters_are_below empty lower before homed is_state leads machine stored enter through_events through_entries begun made rebuilt word_of same_profile
    values leads_to marked join image is_fitting marks_a_round is_rejecting_pair rejecting_with first_rejecting verdict marked_path start_set after
    set_from word_set event_profile next_profile profile_from word_profile next_set set_value profile_value set_table profile_table union accepted_from
    arrow is_arrow earlier sorted written rejects_non_empty gate in_block onto block_profiles flags state_count pair_count from_set from_gate
    from_state from_block arrows second_count arrow_count opposite first_of fault refuse outside mask_beyond arrows_beyond model_checks word_checks
    course_checks head field event_field file_of offset_of_event byte stand_from formed value masks number_checks mask_checks event_checks end_checks
    front_checks file_checks model_read found reading room_for_sets room_for_profiles room_for_states room_for_arrows over set_slices profile_slices opposite_slices
    closing_answer closing_of u_and_v words verdict_from verdict_answer opposite_from opposite_answer closing_in verdict_in opposite_in word_memory
    arrow_slice ◌⇒◌ event mask A B C D E F G H Swap Both Homeless Shuttle row_of row rows own_rows
computed = tt
