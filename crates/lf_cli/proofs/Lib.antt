mod Found
mod Jobs
mod Numbers
