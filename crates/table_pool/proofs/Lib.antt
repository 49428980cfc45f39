mod PoolFacts
mod SignatureFacts
