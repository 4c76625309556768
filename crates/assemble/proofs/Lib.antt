pub mod AnswerLaws
pub mod RenewLaws
pub mod StageLaws
pub mod PlanLaws
pub mod MultiLaws
pub mod WholeLaws
pub mod RecordLaws
pub mod ExampleLaws
