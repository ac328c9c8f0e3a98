mod Lengths
mod Near
mod Results
mod Improving
mod TeamLengths
