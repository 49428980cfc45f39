mod LeastFacts
mod ColumnFacts
mod LocalFacts
