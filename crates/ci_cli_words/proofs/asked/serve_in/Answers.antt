use Rattle.ci_cli_words.proofs.asked.serve_in.Goals as goal

pub returns-in_err-serve_options_in : goal.returns-in_err-serve_options_in
returns-in_err-serve_options_in c = rw c.from_residual.ensures (λ t asks. c.in_err-serve_options_in.ensures asks.0 asks.2)
