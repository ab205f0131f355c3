-- A detail prints a fault of keywords as that fault is shown.
use Rattle.std.proofs.Common.{◌≡◌, refl}
use Rattle.std.specs.Fmt.{digits}
use Rattle.ci_graph_layout.specs.Prelude.{X1, X2, X3, X4, X5, X6, X7, X8, Fault, K1, K2, K3, K4, K5, K6, K7, K8, K9, K10, K11, K12, K13, K14, K15, K16, said}
use Rattle.ci_machine_steps.specs.Prelude.{detail_text, keyword_fault}

pub keywords_print : (fault : Fault) → detail_text (keyword_fault fault) ≡ said fault
unfolding digits
keywords_print K1 = refl
keywords_print (K2 name) = refl
keywords_print K3 = refl
keywords_print K4 = refl
keywords_print K5 = refl
keywords_print K6 = refl
keywords_print K7 = refl
keywords_print K8 = refl
keywords_print K9 = refl
keywords_print K10 = refl
keywords_print K11 = refl
keywords_print K12 = refl
keywords_print (K13 X1) = refl
keywords_print (K13 X2) = refl
keywords_print (K13 X3) = refl
keywords_print (K13 X4) = refl
keywords_print (K13 X5) = refl
keywords_print (K13 X6) = refl
keywords_print (K13 X7) = refl
keywords_print (K13 X8) = refl
keywords_print K14 = refl
keywords_print K15 = refl
keywords_print K16 = refl
