-- Replies: their statuses, the details of faults, and the bodies of refusals.
use Rattle.std.specs.Prelude.{ℕ, List, [], ◌++◌, Option, Some, None, codes}
use Rattle.std.specs.Fmt.{decimal}
use Rattle.ci_board.specs.Prelude.{AttemptState, Live, Succeeded, Failed, Cancelled}
use Rattle.ci_machine.specs.declared.reply.HttpStatus.{HttpStatus}
use Rattle.ci_machine.specs.declared.reply.HttpStatus.TheVariants.{BadRequest, Unauthorized, Forbidden, NotFound, MethodNotAllowed, LengthRequired, PayloadTooLarge, RangeNotSatisfiable, HeaderFieldsTooLarge, NotImplemented, ServiceUnavailable}
use Rattle.ci_machine.specs.declared.reply.Code.{Code}
use Rattle.ci_machine.specs.declared.reply.Code.TheVariants.{M1, M2, M3, M4, M5, M6, M7, M8, M9, M10, M11, M12, M13, M14, M15, M16, M17, H1, H2, H3, H4, H5, H6, H7, H8}
use Rattle.ci_machine.specs.declared.reply.FaultCode.{FaultCode}
use Rattle.ci_machine.specs.declared.reply.FaultCode.TheVariants.{G, K, X, Y}
use Rattle.ci_machine.specs.declared.reply.Detail.{Detail}
use Rattle.ci_machine.specs.declared.reply.JobStatus.{JobStatus}
use Rattle.ci_machine.specs.declared.reply.Body.{Body}
use Rattle.ci_machine.specs.declared.reply.Body.TheVariants.{Json, Plain}
use Rattle.ci_machine.specs.declared.reply.Reply.{Reply}
use Rattle.ci_machine.specs.declared.reply.Answer.{Answer}
use Rattle.ci_machine.specs.declared.reply.Swept.{Swept}

-- the status of a refusal
abbrev pub status_of : Code → HttpStatus
status_of M1 = Unauthorized
status_of M2 = NotFound
status_of M3 = NotFound
status_of M4 = Forbidden
status_of M5 = Forbidden
status_of M6 = Forbidden
status_of M7 = Forbidden
status_of M8 = RangeNotSatisfiable
status_of M9 = PayloadTooLarge
status_of M10 = BadRequest
status_of M11 = Forbidden
status_of M12 = Forbidden
status_of M13 = BadRequest
status_of M14 = BadRequest
status_of M15 = ServiceUnavailable
status_of M16 = ServiceUnavailable
status_of M17 = ServiceUnavailable
status_of H1 = BadRequest
status_of H2 = HeaderFieldsTooLarge
status_of H3 = LengthRequired
status_of H4 = PayloadTooLarge
status_of H5 = NotFound
status_of H6 = MethodNotAllowed
status_of H7 = BadRequest
status_of H8 = NotImplemented

-- a code as it is printed
abbrev pub code_text : Code → List ℕ
code_text M1 = codes "M1"
code_text M2 = codes "M2"
code_text M3 = codes "M3"
code_text M4 = codes "M4"
code_text M5 = codes "M5"
code_text M6 = codes "M6"
code_text M7 = codes "M7"
code_text M8 = codes "M8"
code_text M9 = codes "M9"
code_text M10 = codes "M10"
code_text M11 = codes "M11"
code_text M12 = codes "M12"
code_text M13 = codes "M13"
code_text M14 = codes "M14"
code_text M15 = codes "M15"
code_text M16 = codes "M16"
code_text M17 = codes "M17"
code_text H1 = codes "H1"
code_text H2 = codes "H2"
code_text H3 = codes "H3"
code_text H4 = codes "H4"
code_text H5 = codes "H5"
code_text H6 = codes "H6"
code_text H7 = codes "H7"
code_text H8 = codes "H8"

-- the status of an attempt in this state, as its runner and a user are told it
abbrev pub status_of_state : AttemptState → JobStatus
status_of_state Live = JobStatus.Running
status_of_state (Succeeded exit) = JobStatus.Success
status_of_state (Failed cause exit) = JobStatus.Failed
status_of_state Cancelled = JobStatus.Canceled

abbrev pub status_text : JobStatus → List ℕ
status_text JobStatus.Running = codes "running"
status_text JobStatus.Success = codes "success"
status_text JobStatus.Failed = codes "failed"
status_text JobStatus.Canceled = codes "canceled"

-- the code of a fault as it is printed: its letter and its number
abbrev pub letter_of : FaultCode → List ℕ
letter_of (G n) = codes "G"
letter_of (K n) = codes "K"
letter_of (X n) = codes "X"
letter_of (Y n) = codes "Y"

abbrev pub number_of : FaultCode → ℕ
number_of (G n) = n
number_of (K n) = n
number_of (X n) = n
number_of (Y n) = n

abbrev pub fault_text : FaultCode → List ℕ
fault_text code = letter_of code ++ decimal (number_of code)

-- a fault with what more is said of it: `G3`, `K2 image`, `K13 X2`, `Y5 line 3`
abbrev pub detail_text : Detail → List ℕ
detail_text (Detail.Code code) = fault_text code
detail_text (Detail.Keyword code keyword) = fault_text code ++ codes " " ++ keyword
detail_text (Detail.Expression code inner) = fault_text code ++ codes " " ++ fault_text inner
detail_text (Detail.Line code line) = fault_text code ++ codes " line " ++ decimal line

-- the body of a refusal that has no detail
abbrev pub refusal_text : Code → List ℕ
refusal_text code = codes "{\"code\":\"" ++ code_text code ++ codes "\"}"

-- the reply that has this status and nothing more
abbrev pub plain : HttpStatus → Reply
plain status = record { status = status; code = None; job_status = None; range = None; allow = None; body = None }

-- the reply of a refusal that has no detail
abbrev pub refusal : Code → Reply
refusal c = record (plain (status_of c)) { code = Some c }

abbrev pub text_of : Option Code → Option Body → List ℕ
text_of code (Some (Json text)) = text
text_of code (Some (Plain bytes)) = bytes
text_of (Some code) None = refusal_text code
text_of None None = []

-- the bytes of a reply's body
abbrev pub body_text : Reply → List ℕ
body_text r = text_of r.code r.body

-- How a call ended, as its answer tells: by a step of the machine, or by none.
pub data Outcome : Type 0 where
  Stepped LackedMemory StoreFailed : Outcome

abbrev pub outcome_by : Option Code → Outcome
outcome_by (Some M16) = LackedMemory
outcome_by (Some M17) = StoreFailed
outcome_by _ = Stepped

abbrev pub outcome_of : Answer → Outcome
outcome_of (Answer.Reply reply) = outcome_by reply.code
outcome_of (Answer.Swept (Swept.Refused code)) = outcome_by (Some code)
outcome_of (Answer.Swept (Swept.Ended attempt cause)) = Stepped
outcome_of (Answer.Swept (Swept.Cancelled pipeline)) = Stepped
outcome_of (Answer.Swept Swept.Nothing) = Stepped
