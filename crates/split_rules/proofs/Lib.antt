mod CountFacts
mod HungFacts
mod LeafFacts
mod LinkFacts
mod NextFacts
mod SplitFacts
mod TransitFacts
