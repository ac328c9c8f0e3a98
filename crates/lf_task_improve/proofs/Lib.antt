mod Openings
mod Results
