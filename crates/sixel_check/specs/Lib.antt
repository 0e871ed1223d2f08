pub use Rattle.sixel_judge.specs.Verdicts
pub use Rattle.sixel_judge.specs.Judging
pub use Rattle.sixel_judge.specs.Standing
pub use Rattle.sixel_judge.specs.Notes
pub use Rattle.sixel_judge.specs.Counting
pub use Rattle.sixel_judge.specs.Covering
pub use Rattle.sixel_judge.specs.Outside
pub use Rattle.sixel_judge.specs.Growth
pub use Rattle.sixel_judge.specs.Stretches
pub use Rattle.sixel_judge.specs.Portable
pub use Rattle.sixel_judge.specs.Alarms
pub use Rattle.sixel_survey.specs.Counting as SurveyCounting
pub use Rattle.sixel_survey.specs.Surveys
pub use Rattle.sixel_survey.specs.Declaring
pub use Rattle.sixel_survey.specs.Answers as SurveyAnswers
pub mod Answers
pub mod Checking
