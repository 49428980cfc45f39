mod BreakFacts
mod FateFacts
mod ReportFacts
