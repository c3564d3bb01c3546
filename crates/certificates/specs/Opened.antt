-- All that a certificate's words are tested, judged and made definite with, under one name, for examples by computation.
use Rattle.std.specs.Prelude.{ℕ}
use mathlib.Core.List.{flat_map}
use Rattle.programs.specs.Opened.{programs_open}
use Rattle.certificates.specs.Certificate as certificate
use Rattle.certificates.specs.Guards as guards
use Rattle.certificates.specs.Entailments as entailments
use Rattle.certificates.specs.Sources as sources
use Rattle.certificates.specs.Witnesses as witnesses
use Rattle.certificates.specs.ZerosPutIn as zeros_put_in
use Rattle.certificates.specs.DefiniteWitnesses as definite_witnesses
use Rattle.certificates.specs.Judgement as judgement
use Rattle.certificates.specs.ReadWitnesses as readWitnesses
use Rattle.certificates.specs.CertificateWords as certificateWords
use Rattle.certificates.specs.CertificateTests as certificate_tests
use Rattle.certificates.specs.OtherWitnesses as otherWitnesses

unfoldable pub certificates_open : ℕ
unfolding
    programs_open
    flat_map
    certificate.path_edges certificate.summary_edges certificate.varies certificate.rows_vary certificate.edges_vary
    guards.plus_one guards.negated guards.opposite guards.cases guards.condition_cases
    entailments.entry_image entailments.start_entailment entailments.summary_image entailments.guard_entailment
    entailments.assign_entailment entailments.entry_entailment entailments.return_entailment entailments.from_statement
    entailments.exit_entailment entailments.from_disjunct entailments.from_vertex entailments.entailments
    sources.vertex_of sources.sourced_statement sources.sourced_disjunct sources.sourced_vertex sources.sourced
    witnesses.encode_shares witnesses.encode witnesses.encode_all
    witnesses.under witnesses.other_side witnesses.fit_shares_by witnesses.fits_at_by witnesses.fits_by
    judgement.and_then judgement.read_within judgement.read_multipliers judgement.read_shares judgement.read_target judgement.read_chosen
    judgement.read_leaf judgement.read_constant judgement.read_coefficient judgement.read_coefficients judgement.read_row judgement.read_split judgement.read_tree
    judgement.read_witness judgement.judge_read judgement.judge_one judgement.judge judgement.judgement_answer
    readWitnesses.read_all readWitnesses.witnesses_read readWitnesses.witnesses_in otherWitnesses.front_with otherWitnesses.with_witnesses
    zeros_put_in.shares_with_zeros zeros_put_in.with_zeros zeros_put_in.lists_in
    definite_witnesses.definite_witness definite_witnesses.definite_witnesses definite_witnesses.zeros_in
    certificateWords.disjuncts_of certificateWords.row_words certificateWords.witness_words certificateWords.edge_columns
    certificateWords.entry_count certificateWords.entry_place certificateWords.entry certificateWords.summary_entry
    certificateWords.certificate_in certificateWords.disjuncts_end certificateWords.next_free
    certificate_tests.disjunct_passes certificate_tests.disjuncts_pass certificate_tests.entry_passes_of certificate_tests.entry_passes
    certificate_tests.disjuncts_strict certificate_tests.entry_strict_of certificate_tests.entry_strict certificate_tests.rows_used_of certificate_tests.rows_used certificate_tests.entry_varies
    certificate_tests.entry_tests certificate_tests.header_passes_of certificate_tests.header_passes certificate_tests.tests_in certificate_tests.answer_in
certificates_open = 0
