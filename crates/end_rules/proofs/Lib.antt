mod StepFacts
mod TimeFacts
mod InputFacts
mod ShiftFacts
mod CandidateFacts
mod FoundFacts
mod VerdictFacts
