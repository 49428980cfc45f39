mod CertFacts
mod SplitFacts
mod ExplainFacts
