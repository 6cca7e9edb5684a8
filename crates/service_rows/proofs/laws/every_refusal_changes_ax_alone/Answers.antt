use Rattle.{service_rows.specs.Reasons.{first_reason}, service_rows.proofs.AnswerLaws.{refused_answer, refused_by_family}}
use Rattle.service_rows.proofs.laws.every_refusal_changes_ax_alone.Goals as goal

pub returns-clause-service : goal.returns-clause-service
returns-clause-service c = λ s w e. refused_answer (first_reason s.reasons) w s.after e

pub returns-clause-family : goal.returns-clause-family
returns-clause-family c = λ s w e. refused_by_family (first_reason s.reasons) w s.after e
