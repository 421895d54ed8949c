-- One name that opens every definition of the calculus, for proofs that compute with whole scripts. Assumes nothing.
use Rattle.lambdamix.specs.Limits.{max_types, max_inputs, max_nodes, max_height, max_depth, max_fuel, program_fuel}
use Rattle.lambdamix.specs.Arithmetic.{quotient_by, exact_result, settle_by, settle, outcome, arithmetic}
use Rattle.lambdamix.specs.Falling.{guarded, below, falling_by, falling}
use Rattle.lambdamix.specs.Script.{input_count, node_count, root, node_at, rows, row_of, fields, if_child, child_fields, children}
use Rattle.lambdamix.specs.Term.{arity, child_at, operator_of, build, terms, tree_step, tree, height, node_of}
use Rattle.lambdamix.specs.Types.{same_type, type_by, type_step, type_of, type_count, some_type, listed}
use Rattle.lambdamix.specs.Typing.{type_at_by, type_at, input_type_by, input_type, context_from, input_context}
use Rattle.lambdamix.specs.Checker.{lower_by, lower, both_typed, own, rule, provided, var_rule, lift_rule, abstr_by, abstr_rule, apply_rule, fix_rule, if_rule}
use Rattle.lambdamix.specs.Checker.{op_rule, abstr_dyn_rule, all_dynamic, dyn_rule, gather, check, root_rule, checked_root, annotation_refusal}
use Rattle.lambdamix.specs.Refusal.{first_by, first_failing, refused_at, or_else, refused_unless}
use Rattle.lambdamix.specs.Structure.{one_if, occurrences, uses, used_once, use_refusal, low_enough}
use Rattle.lambdamix.specs.Structure.{height_refusal, lowest_by, lowest, member, unless_bound, unbound, scope_refusal, structure_refusal}
use Rattle.lambdamix.specs.Code.{size, code_height, fits, operator_number, form_node, last_node, last_nodes, nodes_from, written}
use Rattle.lambdamix.specs.Value.{value_at_by, value_at, stop_refusal_by, and_then, ◌>>=◌, give, halt, want_number, want_code, want_function, found}
use Rattle.lambdamix.specs.Evaluation.{job_place, exactly, branch_by, branch, fresh, apply, unfold_once, visit_all, visited, performed, run}
use Rattle.lambdamix.specs.Specializing.{input_value, settings_after, environment_from, input_environment, static_inputs, root_answer, root_run, specialized}
use Rattle.lambdamix.specs.Specializing.{call_refusal, annotation_by, later_refusal}
use Rattle.lambdamix.specs.Erasure.{static_form, erase, erase_all}
use Rattle.lambdamix.specs.PlainRun.{numbers_from, plain_job, plain_root_run, plain_answer, plain_run, plain_refusal}
use Rattle.lambdamix.specs.PlainTrials.{number_applied, function_added, lift_of_lift, one_branch, plain_trials}
use Rattle.lambdamix.specs.Text.{ascii, digits_by, digits_step, digits, decimal}
use Rattle.lambdamix.specs.Listing.{name_by, name_text, operator_text, former_text, spaced, group, term_text, listing}
use Rattle.lambdamix.specs.Trials.{input_a, input_a_without_lift, lowest_by_minus_one, lift_of_five, capturing, power, trials}

-- `unfolding computing` opens all that its own line names
unfoldable pub computing : Unit {0}
unfolding max_types max_inputs max_nodes max_height max_depth max_fuel program_fuel quotient_by exact_result settle_by settle outcome arithmetic guarded
    below falling_by falling input_count node_count root node_at rows row_of fields if_child child_fields children arity child_at operator_of build terms tree_step tree height
    same_type type_by type_step type_of type_count some_type listed type_at_by type_at input_type_by input_type context_from input_context lower_by lower both_typed
    own rule provided var_rule lift_rule abstr_by abstr_rule apply_rule fix_rule if_rule op_rule abstr_dyn_rule all_dynamic dyn_rule gather check root_rule
    checked_root annotation_refusal first_by first_failing refused_at or_else one_if occurrences uses used_once use_refusal low_enough height_refusal
    lowest_by lowest member unless_bound unbound scope_refusal structure_refusal size code_height fits operator_number form_node last_node last_nodes nodes_from
    written value_at_by value_at stop_refusal_by and_then ◌>>=◌ give halt want_number want_code want_function found node_of job_place exactly
    branch_by branch fresh apply unfold_once visit_all visited performed run input_value settings_after environment_from input_environment
    static_inputs root_answer root_run specialized refused_unless call_refusal annotation_by later_refusal ascii digits_by digits_step digits decimal
    name_by name_text operator_text former_text spaced group term_text listing input_a input_a_without_lift lowest_by_minus_one lift_of_five capturing power
    trials static_form erase erase_all numbers_from plain_job plain_root_run plain_answer plain_run plain_refusal number_applied function_added
    lift_of_lift one_branch plain_trials
computing = tt
