use Rattle.ci_yaml_lines.proofs.Comment.{cut-is, cut-one, only-is}
use Rattle.ci_yaml.proofs.line_laws.cuts_comments.Goals as goal

pub returns : goal.returns
returns c = record {
  is_cut = λ before bytes. cut-is before bytes;
  one_cut = λ before bytes front behind h. cut-one before bytes front behind h;
  only_blanks = λ before bytes. only-is before bytes;
}
