pub mod PutLaws
pub mod ChangeLaws
pub mod NameLaws
pub mod GasLaws
pub mod ObjectLaws
pub mod FitLaws
pub mod ProcessLaws
pub mod MatchLaws
pub mod OwnedLaws
pub mod AloneLaws
pub mod GoesLaws
pub mod AloneDeeds
pub mod HeldLaws
pub mod CloseLaws
pub mod RenameLaws
pub mod TalkLaws
pub mod ApartLaws
pub mod ChannelLaws
pub mod LinearLaws
pub mod SendingLaws
pub mod SendLaws
pub mod SendDeeds
pub mod ReceiveLaws
pub mod MessageLaws
pub mod ReceivingLaws
pub mod ReceiveDeeds
pub mod BeginLaws
pub mod PlacedLaws
pub mod BirthLaws
pub mod StartingLaws
pub mod ArgumentLaws
pub mod HandedLaws
pub mod SpawnLaws
pub mod CallLaws
pub mod SpawnDeeds
pub mod SectionLaws
pub mod SharingLaws
pub mod AcquireLaws
pub mod ReleaseLaws
pub mod MeetingLaws
pub mod SharingDeeds
pub mod UserLaws
pub mod ForwardLaws
pub mod DeedLaws
pub mod PlainLaws
pub mod PreservationLaws
pub mod SpeakerLaws
pub mod UnexpectedLaws
pub mod NotWrongLaws
pub mod OwnerLaws
pub mod OwnJudgementLaws
mod TalkExamples
mod StepExamples
mod RunExamples
mod QuietExamples
pub mod EachChangeLaws
pub mod FaultLaws
pub mod FiringLaws
pub mod RunLaws
pub mod PolicyLaws
pub mod ContractLaws
pub mod OutsideLaws
pub mod BalanceLaws
pub mod LifeLaws
pub mod IdleLaws
pub mod ChargeDeeds
pub mod CostLaws
mod OutsideExamples
mod WrongExamples
mod WrongValueExamples
pub mod AwaitLaws
pub mod SayingLaws
pub mod HearingLaws
pub mod OpeningLaws
pub mod PurseLaws
pub mod OutsideTalkLaws
pub mod RestLaws
