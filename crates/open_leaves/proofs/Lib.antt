mod LeafFacts
